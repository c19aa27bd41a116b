-- The frames of a server: what was built for each slot, as far as it may be a message's base.
use Rattle.std.specs.Prelude.{◌≡◌, ℕ, ◌+◌, ◌-◌, ◌<◌, ◌==◌, ◌&&◌, nat_lt, if◌then◌else◌, Bool, List, [], length, map, replicate, slice_index_or, slice_set, Option, Some, None, option_map}
use Rattle.q3_entity_ring.specs.Snapshot.{Snapshot, without_entities}
use Rattle.q3_entity_ring.specs.Places.{most_places, no_places, at_number, put_at_number}

-- a frame: a snapshot that was built, and how many entities were placed before its own
pub record Frame : Type 0 where
  pub snapshot : Snapshot
  pub first : ℕ

-- for how many entities the ring has room, how many were ever placed, those of all slots together, and the frames of each
-- slot, each in the place of its number modulo 32
pub record FramesState : Type 0 where
  pub ring : ℕ
  pub placed : ℕ
  pub slots : List (List (Option Frame))

-- so many slots for which nothing was built
abbrev pub no_frames : ℕ → ℕ → FramesState
no_frames slots ring = record { ring = ring; placed = 0; slots = replicate slots no_places }

-- each slot has all its places
pub record AreFrames (frames : FramesState) : Type 0 where
  pub places : (slot : ℕ) → slot < length frames.slots → length (slice_index_or frames.slots slot []) ≡ most_places

-- ---- a message's base

-- whether all entities of a frame are there: from its first on fewer were placed than the ring has room for
abbrev pub has_entities : ℕ → ℕ → Frame → Bool
has_entities ring placed frame = nat_lt placed (frame.first + ring)

-- the snapshot of what stands in the place of a number, if that is its own number and its entities are there
abbrev pub frame_under : ℕ → ℕ → ℕ → Option Frame → Option Snapshot
frame_under ring placed number None = None
frame_under ring placed number (Some frame) =
    if frame.snapshot.head.number == number && has_entities ring placed frame then Some frame.snapshot else None

-- the frame of a number that a slot holds
abbrev pub held_frame : FramesState → ℕ → ℕ → Option Snapshot
held_frame frames slot number = frame_under frames.ring frames.placed number (at_number (slice_index_or frames.slots slot []) number)

-- whether the frame of a number may be the base of a message, by the numbers: it is below the message, at most by 28
abbrev pub is_near : ℕ → ℕ → Bool
is_near number base = nat_lt 0 base && nat_lt base number && nat_lt (number - base) 29

-- the base of a slot's message, if the client's delta number names one that is near and held; 0 names none
abbrev pub base_of : FramesState → ℕ → ℕ → ℕ → Option Snapshot
base_of frames slot number delta = if is_near number delta then held_frame frames slot delta else None

-- ---- what is built

-- a frame of which others may have taken the entities' places has none any more
abbrev pub frame_remains : ℕ → ℕ → Frame → Frame
frame_remains ring placed frame =
    if has_entities ring placed frame then frame else record frame { snapshot = without_entities frame.snapshot }

-- each frame as it is left
abbrev pub frames_remain : FramesState → FramesState
frames_remain frames = record frames { slots = map (λ places. map (option_map (frame_remains frames.ring frames.placed)) places) frames.slots }

-- a frame in the place of its number among those of a slot
abbrev pub with_frame : List (List (Option Frame)) → ℕ → Frame → List (List (Option Frame))
with_frame slots slot frame = slice_set slots slot (put_at_number (slice_index_or slots slot []) frame.snapshot.head.number frame)

-- a snapshot is built for a slot, and its entities are placed after all others
abbrev pub build_at : FramesState → ℕ → Snapshot → FramesState
build_at frames slot snapshot = frames_remain (record frames {
  placed = frames.placed + length snapshot.entities;
  slots = with_frame frames.slots slot (record { snapshot = snapshot; first = frames.placed });
})
