use Rattle.std.proofs.Common.{◌≤◌}
use Rattle.q3_words.proofs.sparse.count_words.Given as goal

abbrev pub invariant-loop-k : goal.invariant-loop-k
invariant-loop-k l = record { few : l.count ≤ l.k }
