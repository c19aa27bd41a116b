use Rattle.std.proofs.Common.{◌≡◌, ◌-◌, length}
use Rattle.std.specs.List.{find, range_with_len}
use Rattle.q3_bits.specs.Table.{words_of}
use Rattle.q3_bits.specs.CodeWords.{clashes}
use Rattle.q3_bits.proofs.words.clash_with.Given as goal

-- no place so far clashes
abbrev pub invariant-loop-j : goal.invariant-loop-j
invariant-loop-j l = find (λ j. clashes (words_of l.words) (l.i, j)) (range_with_len l.j (length l.words - l.j))
    ≡ find (λ j. clashes (words_of l.words) (l.i, j)) (range_with_len 0 (length l.words))
