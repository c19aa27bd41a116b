use Rattle.std.proofs.Common.{◌≡◌, List, Bool, length, take, drop, min}
use Rattle.q3_bits.specs.Bits.{number_of}
use Rattle.q3_bits.specs.Words.{byte_from}
use Rattle.q3_bits.specs.Table.{words_of}
use Rattle.q3_bits.proofs.code.Code.search.Given as goal

-- no word so far begins the bits
abbrev pub invariant-loop-byte : goal.invariant-loop-byte
invariant-loop-byte l = (left : List Bool) → l.count ≡ min 25 (length left) → l.window ≡ number_of (take 24 left)
    → byte_from l.byte (drop l.byte (words_of l.word-items)) left ≡ byte_from 0 (words_of l.word-items) left
