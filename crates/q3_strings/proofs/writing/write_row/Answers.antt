use Rattle.std.proofs.lemmas.Result.{err_from_is_err_and}
use Rattle.q3_strings.proofs.Rows.{commands-next}
use Rattle.q3_strings.proofs.writing.write_row.Goals as goal

pub returns-in_err-write_issued : goal.returns-in_err-write_issued
returns-in_err-write_issued c =
    let law = c.texts_are_written.ensures in
    let h = c.loop-command.invariant in
    let p = err_from_is_err_and c.from_residual.result c.from_residual.ensures.1 in
    let next = commands-next c.args.w.now.words c.loop-command.w.words c.args.operation c.args.commands.now c.loop-command.command-index c.command-item.result (law.words _ _ _ _ h) c.loop-command-test.true c.command-item.is in
    rw (p.1, p.2) (law.stops _ _ _ _ _ _ _ _ h next c.in_err-write_issued.ensures)
