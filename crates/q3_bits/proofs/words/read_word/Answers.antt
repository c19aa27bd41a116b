use Rattle.std.proofs.Common.{◌∙◌, length, ap}
use Rattle.q3_bits.specs.Bits.{low_bits}
use Rattle.q3_bits.specs.CodeWords.{bits_of_text}
use Rattle.q3_bits.proofs.WordTexts.{low_bits-text}
use Rattle.q3_bits.proofs.words.read_word.Goals as goal

pub returns-clause-bits : goal.returns-clause-bits
returns-clause-bits c =
    let letters = c.as_bytes-letters.result.now in
    ap (low_bits (length letters)) c.bits_of.ensures.spells ∙ low_bits-text letters ∙ ap bits_of_text c.as_bytes-letters.ensures.value
