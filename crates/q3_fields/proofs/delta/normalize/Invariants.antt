use Rattle.std.proofs.Common.{◌≡◌, ◌++◌, length, take, drop}
use Rattle.q3_fields.specs.States.{normal_words}
use Rattle.q3_fields.proofs.delta.normalize.Given as goal

-- so many words are normal, and with them what is left becomes all
abbrev pub invariant-loop-k : goal.invariant-loop-k
invariant-loop-k l = record {
  is : take l.k l.words ++ normal_words (drop l.k l.table.kinds) (drop l.k l.words) ≡ normal_words l.table.kinds l.fn.words;
  long : length l.words ≡ 64;
}
