use Rattle.std.proofs.Common.{drop, arith}
use Rattle.std.proofs.lemmas.Result.{err_from_is_err_and}
use Rattle.q3_clmsg.specs.Moves.{move_widths}
use Rattle.q3_clmsg.proofs.Fields.{fields_bits-next, fields_bits-end}
use Rattle.q3_clmsg.proofs.moves.write_fields.Goals as goal

pub loop-k-preserved : goal.loop-k-preserved
loop-k-preserved c =
    let law = c.texts_are_written.ensures in
    let h = c.loop-k.invariant in
    law.more _ _ _ _ _ _ _ h
    (fields_bits-next c.args.w.now.words c.loop-k.w.words c.args.key move_widths c.args.from.now c.args.to.now c.loop-k.k (law.words _ _ _ _ h) (omega arith) (omega arith) (omega arith))
    c.in_ok-write_field.ensures

pub returns-in_err-write_field : goal.returns-in_err-write_field
returns-in_err-write_field c =
    let law = c.texts_are_written.ensures in
    let h = c.loop-k.invariant in
    let p = err_from_is_err_and c.from_residual.result c.from_residual.ensures.1 in
    rw (p.1, p.2)
    (law.stops _ _ _ _ _ _ _ _ h
    (fields_bits-next c.args.w.now.words c.loop-k.w.words c.args.key move_widths c.args.from.now c.args.to.now c.loop-k.k (law.words _ _ _ _ h) (omega arith) (omega arith) (omega arith))
    c.in_err-write_field.ensures)

pub returns : goal.returns
returns c =
    let end = fields_bits-end c.args.w.now.words c.args.key move_widths (drop c.loop-k.k c.args.from.now) (drop c.loop-k.k c.args.to.now) c.loop-k.k (omega arith) in
    c.texts_are_written.ensures.all _ _ _ (rw end at c.loop-k.invariant)
