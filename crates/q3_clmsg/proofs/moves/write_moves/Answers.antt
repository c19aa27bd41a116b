use Rattle.std.proofs.lemmas.Result.{err_from_is_err_and}
use Rattle.q3_clmsg.proofs.MoveRows.{moves_bits-next, moves_bits-end}
use Rattle.q3_clmsg.proofs.moves.write_moves.Goals as goal

pub loop-one-preserved : goal.loop-one-preserved
loop-one-preserved c =
    let law = c.texts_are_written.ensures in
    let h = c.loop-one.invariant in
    let k = c.loop-one.one-index in
    let next = moves_bits-next c.args.w.now.words c.loop-one.w.words c.args.key c.loop-one.from c.args.moves.now k _ (law.words _ _ _ _ h) c.loop-one-test.true in
    law.more _ _ _ _ _ _ _ h next c.in_ok-write_move.ensures

pub returns-in_err-write_move : goal.returns-in_err-write_move
returns-in_err-write_move c =
    let law = c.texts_are_written.ensures in
    let h = c.loop-one.invariant in
    let k = c.loop-one.one-index in
    let p = err_from_is_err_and c.from_residual.result c.from_residual.ensures.1 in
    let next = moves_bits-next c.args.w.now.words c.loop-one.w.words c.args.key c.loop-one.from c.args.moves.now k _ (law.words _ _ _ _ h) c.loop-one-test.true in
    rw (p.1, p.2) (law.stops _ _ _ _ _ _ _ _ h next c.in_err-write_move.ensures)

pub returns : goal.returns
returns c =
    let end = moves_bits-end c.args.w.now.words c.args.key c.loop-one.from c.args.moves.now c.loop-one.one-index c.loop-one-test.false in
    c.texts_are_written.ensures.all _ _ _ (rw end at c.loop-one.invariant)
