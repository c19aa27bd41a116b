use Rattle.std.proofs.lemmas.Result.{err_from_is_err_and}
use Rattle.q3_strings.proofs.Rows.{bytes-next, bytes-end}
use Rattle.q3_strings.proofs.writing.write_each.Goals as goal

pub returns-in_err-put : goal.returns-in_err-put
returns-in_err-put c =
    let law = c.texts_are_written.ensures in
    let h = c.loop-byte.invariant in
    let p = err_from_is_err_and c.from_residual.result c.from_residual.ensures.1 in
    let next = bytes-next c.args.w.now.words c.loop-byte.w.words c.args.bytes.now c.loop-byte.byte-index (law.words _ _ _ _ h) c.loop-byte-test.true in
    rw (p.1, p.2) (law.stops _ _ _ _ _ _ _ _ h next (rw c.from.ensures at c.in_err-put.ensures.writes))

pub loop-byte-preserved : goal.loop-byte-preserved
loop-byte-preserved c =
    let law = c.texts_are_written.ensures in
    let h = c.loop-byte.invariant in
    let next = bytes-next c.args.w.now.words c.loop-byte.w.words c.args.bytes.now c.loop-byte.byte-index (law.words _ _ _ _ h) c.loop-byte-test.true in
    law.more _ _ _ _ _ _ _ h next (rw c.from.ensures at c.in_ok-put.ensures.writes)

pub returns : goal.returns
returns c =
    let end = bytes-end c.args.w.now.words c.args.bytes.now c.loop-byte.byte-index c.loop-byte-test.false in
    c.texts_are_written.ensures.all _ _ _ (rw end at c.loop-byte.invariant)
