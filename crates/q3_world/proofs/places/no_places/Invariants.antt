use Rattle.std.proofs.Common.{◌≡◌, replicate, None}
use Rattle.q3_world.proofs.places.no_places.Given as goal

abbrev pub invariant-loop : goal.invariant-loop
invariant-loop l = l.made.items ≡ replicate l.counter None
