-- Laws of frames.
use Rattle.std.specs.Prelude.{◌≡◌, ◌≢◌, ◌⊎◌, ℕ, ◌+◌, ◌<◌, List, [], ◌∷◌, ◌++◌, length, slice_index_or, Some, None}
use Rattle.q3_entity_ring.specs.Snapshot.{Snapshot}
use Rattle.q3_entity_ring.specs.Places.{place_of, at_number}
use Rattle.q3_frames.specs.Frames.{FramesState, no_frames, AreFrames, frame_under, held_frame, base_of, build_at}
use Rattle.q3_frames.specs.Built.{Build, base_built, FramesStandFor}

-- where nothing was built nothing is held
abbrev pub NothingIsHeld : Type 0
NothingIsHeld = (slots ring slot number : ℕ) → held_frame (no_frames slots ring) slot number ≡ None

-- what a slot holds after a build is what was built for it, or it was held before, the same, and another place was built in
abbrev pub HeldWasBuilt : Type 0
HeldWasBuilt = (frames : FramesState) (c slot number : ℕ) (built held : Snapshot) → held_frame (build_at frames c built) slot number ≡ Some held
    → ((slot ≡ c) × (number ≡ built.head.number) × (held ≡ built))
    ⊎ ((slot ≡ c → place_of number ≢ place_of built.head.number) × (held_frame frames slot number ≡ Some held))

-- a build leaves every other place: what stood there is held after exactly where it was built under the number, and the count at which
-- its entities begin, with the ring's room added, is above the count of entities placed, those of the build among them
abbrev pub BuildLeavesOthers : Type 0
BuildLeavesOthers = (frames : FramesState) (c slot number : ℕ) (built : Snapshot) → (slot ≡ c → place_of number ≢ place_of built.head.number)
    → held_frame (build_at frames c built) slot number
    ≡ frame_under frames.ring (frames.placed + length built.entities) number (at_number (slice_index_or frames.slots slot []) number)

-- what is built is held under its number, if its entities are fewer than the ring has room for
abbrev pub BuiltIsHeld : Type 0
BuiltIsHeld = (frames : FramesState) (c : ℕ) (built : Snapshot) → AreFrames frames → c < length frames.slots → length built.entities < frames.ring
    → held_frame (build_at frames c built) c built.head.number ≡ Some built

-- each slot has all its places where nothing was built, and a build keeps them, the slots and the ring's room
pub record BuildKeeps : Type 0 where
  pub nothing : (slots ring : ℕ) → AreFrames (no_frames slots ring)
  pub places : (frames : FramesState) (c : ℕ) (built : Snapshot) → AreFrames frames → AreFrames (build_at frames c built)
  pub slots : (frames : FramesState) (c : ℕ) (built : Snapshot) → length (build_at frames c built).slots ≡ length frames.slots
  pub ring : (frames : FramesState) (c : ℕ) (built : Snapshot) → (build_at frames c built).ring ≡ frames.ring

-- a base is below its message, at most by 28, and it is held under the delta number, which is its own
abbrev pub BaseIsNear : Type 0
BaseIsNear = (frames : FramesState) (slot number delta : ℕ) (snapshot : Snapshot) → base_of frames slot number delta ≡ Some snapshot
    → (0 < delta) × (delta < number) × (number < delta + 29) × (snapshot.head.number ≡ delta) × (held_frame frames slot delta ≡ Some snapshot)

-- ---- over all that was ever built

-- frames with nothing in them stand for nothing built
abbrev pub NothingStands : Type 0
NothingStands = (slots ring : ℕ) → FramesStandFor [] (no_frames slots ring)

-- what is built is one more of all that was built
abbrev pub BuildIsAdded : Type 0
BuildIsAdded = (builds : List Build) (frames : FramesState) (slot : ℕ) (snapshot : Snapshot) → slot < length frames.slots → FramesStandFor builds frames
    → FramesStandFor (builds ++ record { slot = slot; snapshot = snapshot } ∷ []) (build_at frames slot snapshot)

-- the base of a message is the frame built last under the delta number, exactly by the rule
abbrev pub BaseWasBuiltLast : Type 0
BaseWasBuiltLast = (builds : List Build) (frames : FramesState) (slot number delta : ℕ) → slot < length frames.slots → FramesStandFor builds frames
    → base_of frames slot number delta ≡ base_built frames.ring builds slot number delta
