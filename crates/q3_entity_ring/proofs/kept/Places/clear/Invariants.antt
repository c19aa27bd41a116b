use Rattle.std.proofs.Common.{◌≡◌, length, take, replicate, None}
use Rattle.q3_entity_ring.specs.Places.{most_places}
use Rattle.q3_entity_ring.proofs.kept.Places.clear.Given as goal

-- the places up to here are empty
abbrev pub invariant-loop-place : goal.invariant-loop-place
invariant-loop-place l = record {
  count : length l.place-items ≡ most_places;
  empty : take l.place-index l.place-items ≡ replicate l.place-index None;
}
