use Rattle.std.proofs.Common.{◌≡◌, replicate}
use Rattle.q3_entity_ring.specs.Places.{no_places}
use Rattle.q3_frames.proofs.frames.empty_slots.Given as goal

-- so many slots are empty
abbrev pub invariant-loop : goal.invariant-loop
invariant-loop l = l.made.items ≡ replicate l.counter no_places
