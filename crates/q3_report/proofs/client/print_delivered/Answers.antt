use Rattle.std.proofs.lemmas.Result.{err_from_is_err_and}
use Rattle.q3_clstate.specs.Report.{applied_text}
use Rattle.q3_report.proofs.Delivered.{delivered_lines}
use Rattle.q3_report.proofs.client.print_delivered.Goals as goal

pub returns-in_err-print_number-clause-adds : goal.returns-in_err-print_number-clause-adds
returns-in_err-print_number-clause-adds g c =
    let p = err_from_is_err_and c.from_residual.result c.from_residual.ensures.1 in
    rw p.1 (c.texts_follow.ensures.early (applied_text c.args.state.now c.args.applied.now c.args.log.now.commands) c.in_err-print_number.ensures.adds
    (delivered_lines c.args.state.now c.args.c c.args.applied.now c.args.log.now.commands))

pub returns-clause-adds : goal.returns-clause-adds
returns-clause-adds g c =
    c.texts_follow.ensures.more c.in_ok-print_number.ensures.adds c.print_applied.ensures.adds
    (delivered_lines c.args.state.now c.args.c c.args.applied.now c.args.log.now.commands)
