use Rattle.std.proofs.Common.{◌≡◌, List, Bool, length, take, drop, min}
use Rattle.q3_bits.specs.Bits.{number_of}
use Rattle.q3_bits.specs.Words.{begins_word}
use Rattle.q3_bits.specs.Table.{words_of}
use Rattle.q3_bits.proofs.code.Code.begins_with.Given as goal

-- no word so far goes on from the bits
abbrev pub invariant-loop-word : goal.invariant-loop-word
invariant-loop-word l = (bits : List Bool) → l.count ≡ min 25 (length bits) → l.front ≡ number_of (take 24 bits)
    → begins_word (drop l.word-index (words_of l.word-items)) bits ≡ begins_word (words_of l.word-items) bits
