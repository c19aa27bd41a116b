use Rattle.std.proofs.Common.{◌≡◌, length}
use Rattle.q3_words.specs.Fields.{fields_at}
use Rattle.q3_words.specs.Words.{words_left}
use Rattle.q3_words.proofs.Rising.{Reached}
use Rattle.q3_words.proofs.fields.take_fields.Given as goal

abbrev pub invariant-loop-word : goal.invariant-loop-word
invariant-loop-word l = record {
  reached : Reached l.letter (length l.fn.values) l.least l.values (words_left l.left) l.fn.values (fields_at l.letter (length l.fn.values) 0 (words_left l.start));
  limit : l.limit ≡ length l.fn.values;
  size : length l.values ≡ length l.fn.values;
}

abbrev pub decreases-loop-word : goal.decreases-loop-word
decreases-loop-word l = length (words_left l.left)
