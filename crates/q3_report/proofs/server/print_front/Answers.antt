use Rattle.std.proofs.Common.{refl}
use Rattle.std.proofs.lemmas.Result.{err_from_is_err_and}
use Rattle.q3_window.specs.Report.{commands_text}
use Rattle.q3_report.proofs.server.print_front.Goals as goal

pub returns-in_err-print_number-clause-adds : goal.returns-in_err-print_number-clause-adds
returns-in_err-print_number-clause-adds g c =
    let p = err_from_is_err_and c.from_residual.result c.from_residual.ensures.1 in
    rw p.1 (c.texts_follow.ensures.early (commands_text c.args.commands.now) c.in_err-print_number.ensures.adds refl)

pub returns-clause-adds : goal.returns-clause-adds
returns-clause-adds g c = c.texts_follow.ensures.more c.in_ok-print_number.ensures.adds c.print_commands.ensures.adds refl
