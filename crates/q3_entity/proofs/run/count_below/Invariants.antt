use Rattle.std.proofs.Common.{◌<◌, take, All}
use Rattle.q3_entity.proofs.run.count_below.Given as goal

-- so far all are below
abbrev pub invariant-loop-k : goal.invariant-loop-k
invariant-loop-k l = All (λ entity. entity.number < l.number) (take l.k l.part)
