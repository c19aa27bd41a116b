use Rattle.std.proofs.Common.{◌≡◌, length}
use Rattle.q3_bits.specs.Table.{words_of}
use Rattle.q3_bits.specs.CodeWords.{clashes, first_clash}
use Rattle.q3_bits.proofs.WordTexts.{rows_from}
use Rattle.q3_bits.proofs.words.first_clash.Given as goal

-- no row so far has a clash
abbrev pub invariant-loop-i : goal.invariant-loop-i
invariant-loop-i l = rows_from (clashes (words_of l.words)) l.i (length l.words) ≡ first_clash (words_of l.words)
