-- Why bits don't read, as reports print it.
use Rattle.std.specs.Prelude.{ℕ, List, codes}
use Rattle.q3_bits.specs.declared.reader.ReadError.{ReadError}
use Rattle.q3_bits.specs.declared.reader.ReadError.TheVariants.{End, NoWord}

-- the word of a fault of bits
abbrev pub bits_word : ReadError → List ℕ
bits_word End = codes "end"
bits_word NoWord = codes "noword"
