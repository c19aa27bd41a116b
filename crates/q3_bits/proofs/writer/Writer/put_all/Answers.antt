use Rattle.std.proofs.Common.{arith}
use Rattle.std.proofs.lemmas.Result.{err_from_is_err_and}
use Rattle.q3_bits.proofs.Texts.{HasWritten-begin, HasWritten-more, HasWritten-stops, HasWritten-all, HasWritten-words, row_bits-next, row_bits-end}
use Rattle.q3_bits.proofs.writer.Writer.put_all.Goals as goal

pub loop-value-init : goal.loop-value-init
loop-value-init c = HasWritten-begin _ _ (λ over. omega (arith, c.length.ensures.length, c.length.ensures.within, over))

pub returns-in_err-put : goal.returns-in_err-put
returns-in_err-put c =
    let start = c.args.self.now in
    let h = c.loop-value.invariant in
    let p = err_from_is_err_and c.from_residual.result c.from_residual.ensures.1 in
    rw (p.1, p.2)
    (HasWritten-stops _ _ _ _ _ _ _ _ h (row_bits-next start.words c.loop-value.self.words c.args.fields.now c.loop-value.value-index (HasWritten-words _ _ _ _ h) c.loop-value-test.true) c.in_err-put.ensures.writes)

pub loop-value-preserved : goal.loop-value-preserved
loop-value-preserved c =
    let start = c.args.self.now in
    let h = c.loop-value.invariant in
    HasWritten-more _ _ _ _ _ _ _ h (row_bits-next start.words c.loop-value.self.words c.args.fields.now c.loop-value.value-index (HasWritten-words _ _ _ _ h) c.loop-value-test.true) c.in_ok-put.ensures.writes

pub returns : goal.returns
returns c =
    let end = row_bits-end c.args.self.now.words c.args.fields.now c.loop-value.value-index c.loop-value-test.false in
    HasWritten-all _ _ _ (rw end at c.loop-value.invariant)
