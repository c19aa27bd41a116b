use Rattle.std.proofs.Common.{arith}
use Rattle.std.proofs.lemmas.Result.{err_from_is_err_and}
use Rattle.q3_player.proofs.Changes.{values_bits-next, values_bits-end}
use Rattle.q3_player.proofs.writing.write_values.Goals as goal

pub loop-k-init : goal.loop-k-init
loop-k-init c = c.texts_are_written.ensures.begin _ _ (λ over. omega (arith, c.length.ensures.length, c.length.ensures.within, over))

pub loop-k-preserved : goal.loop-k-preserved
loop-k-preserved c =
    let law = c.texts_are_written.ensures in
    law.more _ _ _ _ _ _ _ c.loop-k.invariant
    (values_bits-next c.args.w.now.words c.loop-k.w.words c.args.kind c.loop-k.k c.args.from.now c.args.to.now (law.words _ _ _ _ c.loop-k.invariant) (omega arith) (omega arith))
    c.in_ok-write_place.ensures

pub returns-in_err-write_place : goal.returns-in_err-write_place
returns-in_err-write_place c =
    let law = c.texts_are_written.ensures in
    let p = err_from_is_err_and c.from_residual.result c.from_residual.ensures.1 in
    rw (p.1, p.2)
    (law.stops _ _ _ _ _ _ _ _ c.loop-k.invariant
    (values_bits-next c.args.w.now.words c.loop-k.w.words c.args.kind c.loop-k.k c.args.from.now c.args.to.now (law.words _ _ _ _ c.loop-k.invariant) (omega arith) (omega arith))
    c.in_err-write_place.ensures)

pub returns : goal.returns
returns c =
    let end = values_bits-end c.args.w.now.words c.args.kind c.loop-k.k c.args.from.now c.args.to.now (omega arith) in
    c.texts_are_written.ensures.all _ _ _ (rw end at c.loop-k.invariant)
