use Rattle.std.proofs.Common.{◌∙◌, sym, arith}
use Rattle.std.proofs.lemmas.Bool.{lt-leb}
use Rattle.q3_bits.proofs.Causes.{starts_with-test, starts_with-long}
use Rattle.q3_bits.proofs.code.Word.starts_with.Goals as goal

pub returns-then-count-from : goal.returns-then-count-from
returns-then-count-from c = λ bits is spells.
    starts_with-test c.args.self c.args.count c.args.front bits c.requires (omega (arith, c.if-count-from.true, c.from.ensures)) is spells

pub returns-else-count-from : goal.returns-else-count-from
returns-else-count-from c = λ bits is spells.
    lt-leb _ _ (omega (arith, c.if-count-from.false)) ∙ sym (starts_with-long c.args.self bits (omega (arith, c.if-count-from.false, c.from.ensures)))
