use Rattle.std.proofs.Common.{drop, arith}
use Rattle.std.proofs.lemmas.Result.{err_from_is_err_and}
use Rattle.q3_fields.proofs.FieldTexts.{fields_bits-next, fields_bits-end}
use Rattle.q3_fields.proofs.delta.write_fields.Goals as goal

pub loop-k-init : goal.loop-k-init
loop-k-init c = c.texts_are_written.ensures.begin _ _ (λ over. omega (arith, c.length.ensures.length, c.length.ensures.within, over))

pub loop-k-preserved : goal.loop-k-preserved
loop-k-preserved c =
    let law = c.texts_are_written.ensures in
    law.more _ _ _ _ _ _ _ c.loop-k.invariant
    (fields_bits-next c.args.state c.args.w.now.words c.loop-k.w.words c.args.table.now.kinds c.args.count c.loop-k.k c.kind_at.result c.args.from.now c.args.to.now (law.words _ _ _ _ c.loop-k.invariant) c.loop-k-test.true c.requires.in_table c.kind_at.ensures.kind (omega arith) (omega arith))
    c.in_ok-write_field.ensures

pub returns-in_err-write_field : goal.returns-in_err-write_field
returns-in_err-write_field c =
    let law = c.texts_are_written.ensures in
    let p = err_from_is_err_and c.from_residual.result c.from_residual.ensures.1 in
    rw (p.1, p.2)
    (law.stops _ _ _ _ _ _ _ _ c.loop-k.invariant
    (fields_bits-next c.args.state c.args.w.now.words c.loop-k.w.words c.args.table.now.kinds c.args.count c.loop-k.k c.kind_at.result c.args.from.now c.args.to.now (law.words _ _ _ _ c.loop-k.invariant) c.loop-k-test.true c.requires.in_table c.kind_at.ensures.kind (omega arith) (omega arith))
    c.in_err-write_field.ensures)

pub returns : goal.returns
returns c =
    let from = drop c.loop-k.k c.args.from.now in
    let to = drop c.loop-k.k c.args.to.now in
    let end = fields_bits-end c.args.state c.args.w.now.words c.args.table.now.kinds c.args.count c.loop-k.k from to c.loop-k-test.false c.requires.in_table in
    c.texts_are_written.ensures.all _ _ _ (rw end at c.loop-k.invariant)
