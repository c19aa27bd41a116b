use Rattle.std.proofs.Common.{◌≡◌, take}
use Rattle.q3_fields.proofs.delta.agree.Given as goal

-- no bit differs so far exactly where the words looked at agree
abbrev pub invariant-loop-k : goal.invariant-loop-k
invariant-loop-k l = record {
  agree : l.differ ≡ 0 → take l.k l.from ≡ take l.k l.to;
  none : l.from ≡ l.to → l.differ ≡ 0;
}
