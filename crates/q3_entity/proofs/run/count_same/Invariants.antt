use Rattle.std.proofs.Common.{◌≡◌, take}
use Rattle.q3_entity.proofs.run.count_same.Given as goal

-- so far they are the same
abbrev pub invariant-loop-k : goal.invariant-loop-k
invariant-loop-k l = take l.k l.base ≡ take l.k l.now
