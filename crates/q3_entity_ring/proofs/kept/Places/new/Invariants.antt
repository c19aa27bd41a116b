use Rattle.std.proofs.Common.{◌≡◌, replicate, None}
use Rattle.q3_entity_ring.proofs.kept.Places.new.Given as goal

-- so many places are empty
abbrev pub invariant-loop : goal.invariant-loop
invariant-loop l = l.places.items ≡ replicate l.counter None
