-- How frames are kept: their entities lie in one ring, those of frames with the same entities once.
use Rattle.std.specs.Prelude.{ℕ, ◌≡◌, ◌+◌, ◌^◌, ◌<◌, ◌≤◌, true, length, map, All, option_map, IfSome}
use Rattle.q3_entity.specs.Entities.{Rises, most_entities}
use Rattle.q3_entity_ring.specs.declared.kept.Kept.{Kept}
use Rattle.q3_entity_ring.specs.Ring.{RingState}
use Rattle.q3_entity_ring.specs.Kept.{snapshot_in}
use Rattle.q3_entity_ring.specs.Places.{most_places}
use Rattle.q3_frames.specs.declared.frames.Frames.TheInside.{Inside}
use Rattle.q3_frames.specs.Frames.{Frame, FramesState, has_entities, frame_remains}

abbrev pub frame_in : RingState → Kept → Frame
frame_in ring kept = record { snapshot = snapshot_in ring kept; first = kept.counted }

abbrev pub frames_in : Inside → FramesState
frames_in f = record {
  ring = length f.ring.recent;
  placed = f.placed;
  slots = map (λ places. map (option_map (λ kept. frame_remains (length f.ring.recent) f.placed (frame_in f.ring kept))) places) f.slots.items;
}

-- the entities of what is kept were placed, no more were placed in the ring since than were counted, and they rise where they
-- are there
pub record IsKept (ring : RingState) (total : ℕ) (kept : Kept) : Type 0 where
  pub placed : kept.first + kept.count ≤ ring.placed
  pub counted : ring.placed + kept.counted ≤ total + kept.first
  pub rises : has_entities (length ring.recent) total (frame_in ring kept) ≡ true → Rises (snapshot_in ring kept).entities

pub record AreKept (f : Inside) : Type 0 where
  pub room : most_entities ≤ length f.ring.recent
  pub places : All (λ places. length places ≡ most_places) f.slots.items
  pub placed : f.placed < 2 ^ 63
  pub fewer : f.ring.placed ≤ f.placed
  pub each : All (λ places. All (λ place. IfSome place (IsKept f.ring f.placed)) places) f.slots.items
