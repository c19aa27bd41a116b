use Rattle.std.proofs.Common.{refl}
use Rattle.std.proofs.lemmas.Result.{err_from_is_err_and}
use Rattle.q3_report.specs.ServerLines.{owed_text}
use Rattle.q3_report.proofs.server.print_ignored.Goals as goal

pub returns-in_err-print_id-clause-adds : goal.returns-in_err-print_id-clause-adds
returns-in_err-print_id-clause-adds g c =
    let p = err_from_is_err_and c.from_residual.result c.from_residual.ensures.1 in
    rw p.1 (c.texts_follow.ensures.early (owed_text c.args.owed) c.in_err-print_id.ensures.adds refl)
