use Rattle.std.proofs.Common.{◌≡◌, true, take}
use Rattle.std.specs.List.{list_all}
use Rattle.q3_bits.specs.CodeWords.{is_bit}
use Rattle.q3_bits.proofs.words.are_bits.Given as goal

-- each letter so far is a bit
abbrev pub invariant-loop-letter : goal.invariant-loop-letter
invariant-loop-letter l = list_all is_bit (take l.letter-index l.letters) ≡ true
