-- The same over the list of all that was ever built, of which nothing is lost: counts are sums over it.
use Rattle.std.specs.Prelude.{◌≡◌, ℕ, ◌+◌, ◌<◌, ◌==◌, ◌&&◌, if◌then◌else◌, List, [], ◌∷◌, length, filter, sum_by, slice_index_or, Option, None, option_map}
use Rattle.std.specs.List.{last_or}
use Rattle.q3_entity_ring.specs.Snapshot.{Snapshot}
use Rattle.q3_entity_ring.specs.Places.{place_of, at_number}
use Rattle.q3_frames.specs.Frames.{Frame, FramesState, AreFrames, frame_under, is_near, frame_remains}

-- what was built, and for which slot
pub record Build : Type 0 where
  pub slot : ℕ
  pub snapshot : Snapshot

-- how many entities were placed
abbrev pub placed_by : List Build → ℕ
placed_by builds = sum_by (λ one. length one.snapshot.entities) builds

-- each with its slot as a frame, after so many entities
abbrev pub frames_from : ℕ → List Build → List (ℕ × Frame)
frames_from placed [] = []
frames_from placed (one ∷ builds) =
    (one.slot, record { snapshot = one.snapshot; first = placed }) ∷ frames_from (placed + length one.snapshot.entities) builds

-- the last frame that was built for a slot under a number that is this one modulo 32
abbrev pub last_built : List Build → ℕ → ℕ → Option Frame
last_built builds slot number = option_map (λ (one : ℕ × Frame). one.1)
    (last_or None (filter (λ one. one.0 == slot && place_of one.1.snapshot.head.number == place_of number) (frames_from 0 builds)))

-- the base of a message, if the delta number is near: the last frame built under that number modulo 32, if it is under this
-- very number, and its first with the ring's room is above what was placed
abbrev pub base_built : ℕ → List Build → ℕ → ℕ → ℕ → Option Snapshot
base_built ring builds slot number delta =
    if is_near number delta then frame_under ring (placed_by builds) delta (last_built builds slot delta) else None

-- the frames that are kept stand for all that was built: in each place is the last one built for it, as it is left
pub record FramesStandFor (builds : List Build) (frames : FramesState) : Type 0 where
  pub placed : frames.placed ≡ placed_by builds
  pub are : AreFrames frames
  pub places : (slot number : ℕ) → slot < length frames.slots
      → at_number (slice_index_or frames.slots slot []) number ≡ option_map (frame_remains frames.ring frames.placed) (last_built builds slot number)
