use Rattle.std.proofs.Common.{◌+◌, length, drop, get_or, refl, ap, arith}
use Rattle.std.proofs.lemmas.List.{length-append}
use Rattle.q3_bits.specs.Words.{field_bits, row_bits}
use Rattle.q3_bits.proofs.Texts.{row_bits-next, row_bits-end}
use Rattle.q3_bits.proofs.code.Code.row_length.Goals as goal

pub loop-value-preserved : goal.loop-value-preserved
loop-value-preserved c =
    let words = c.args.self.now in
    let fields = c.args.fields.now in
    let k = c.loop-value.value-index in
    let one = get_or fields k (0, 0) in
    let next = ap length (row_bits-next words words fields k refl c.loop-value-test.true) in
    let both = length-append (field_bits words one.1 one.0) (row_bits words (drop (k + 1) fields)) in
    let field = c.field_length-length.ensures in
    (omega (arith, c.loop-value.invariant.0, next, both, field.length), omega (arith, c.loop-value.invariant.1, field.short))

pub returns : goal.returns
returns c =
    omega (arith, c.loop-value.invariant.0, ap length (row_bits-end c.args.self.now c.args.fields.now c.loop-value.value-index c.loop-value-test.false))
