use Rattle.std.proofs.Common.{◌≡◌, sym, ◌∙◌, arith}
use Rattle.q3_bits.proofs.Numbers.{low_bits-zero}
use Rattle.q3_bits.proofs.CodeText.{bytes_bits-zero}
use Rattle.q3_bits.proofs.Written.{gathered-one, gathered-two}
use Rattle.q3_bits.proofs.writer.gather.Goals as goal

pub returns-then-count-eq0-clause-words : goal.returns-then-count-eq0-clause-words
returns-then-count-eq0-clause-words c = rw c.if-count-eq0.true (low_bits-zero 0 ∙ sym (bytes_bits-zero c.args.code.now c.args.value))

pub returns-then-count-eq1-clause-words : goal.returns-then-count-eq1-clause-words
returns-then-count-eq1-clause-words c =
    rw (c.if-count-eq1.true, c.from.ensures, c.from-then-count-eq1.ensures) (gathered-one c.args.code.now c.args.value c.word-low.result c.word-low.ensures.bits)

pub returns-clause-words : goal.returns-clause-words
returns-clause-words c =
    let two : c.args.count ≡ 2 = omega (arith, c.requires, c.if-count-eq0.false, c.if-count-eq1.false) in
    rw two (c.two_words.ensures.bits ∙ gathered-two c.args.code.now c.args.value c.word-low.result c.word.result c.word-low.ensures.bits c.word.ensures.bits)
