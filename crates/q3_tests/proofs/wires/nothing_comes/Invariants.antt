use Rattle.std.proofs.Common.{◌≡◌, true}
use Rattle.q3_tests.proofs.wires.nothing_comes.Given as goal

-- the wire stays bound
abbrev pub invariant-loop : goal.invariant-loop
invariant-loop g l = g.W.Wire.bound l.wire ≡ true
