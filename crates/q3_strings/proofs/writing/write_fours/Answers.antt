use Rattle.std.proofs.lemmas.Result.{err_from_is_err_and}
use Rattle.q3_strings.proofs.Rows.{fours-next, fours-end}
use Rattle.q3_strings.proofs.writing.write_fours.Goals as goal

pub returns-in_err-put : goal.returns-in_err-put
returns-in_err-put c =
    let law = c.texts_are_written.ensures in
    let h = c.loop-k.invariant in
    let p = err_from_is_err_and c.from_residual.result c.from_residual.ensures.1 in
    let next = fours-next c.args.w.now.words c.loop-k.w.words c.args.bytes.now c.args.count c.loop-k.k c.four_at-four.result (law.words _ _ _ _ h) c.loop-k-test.true c.four_at-four.ensures in
    rw (p.1, p.2) (law.stops _ _ _ _ _ _ _ _ h next c.in_err-put.ensures.writes)

pub loop-k-preserved : goal.loop-k-preserved
loop-k-preserved c =
    let law = c.texts_are_written.ensures in
    let h = c.loop-k.invariant in
    let next = fours-next c.args.w.now.words c.loop-k.w.words c.args.bytes.now c.args.count c.loop-k.k c.four_at-four.result (law.words _ _ _ _ h) c.loop-k-test.true c.four_at-four.ensures in
    law.more _ _ _ _ _ _ _ h next c.in_ok-put.ensures.writes

pub returns : goal.returns
returns c =
    let end = fours-end c.args.w.now.words c.args.bytes.now c.args.count c.loop-k.k c.loop-k-test.false in
    c.texts_are_written.ensures.all _ _ _ (rw end at c.loop-k.invariant)
