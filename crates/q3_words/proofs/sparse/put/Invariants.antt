use Rattle.std.proofs.Common.{◌≡◌, length, drop}
use Rattle.q3_fields.specs.Places.{with_changes}
use Rattle.q3_words.proofs.sparse.put.Given as goal

-- those that are left, put over the words so far, are all
abbrev pub invariant-loop-k : goal.invariant-loop-k
invariant-loop-k l = record {
  put : with_changes l.words (drop l.k l.kept) ≡ with_changes l.fn.words l.kept;
  size : length l.words ≡ length l.fn.words;
}
