use Rattle.std.proofs.Common.{◌≡◌, ◌<◌, ◌^◌, take}
use Rattle.q3_bits.specs.Bits.{number_of}
use Rattle.q3_bits.specs.CodeWords.{bits_of_text}
use Rattle.q3_bits.proofs.words.bits_of.Given as goal

-- the number that the letters so far spell
abbrev pub invariant-loop-k : goal.invariant-loop-k
invariant-loop-k l = record {
  spells : l.bits ≡ number_of (take l.k (bits_of_text l.letters));
  fits : l.bits < 2 ^ l.k;
}
