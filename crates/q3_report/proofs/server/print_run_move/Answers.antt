use Rattle.std.proofs.Common.{◌++◌, codes, refl}
use Rattle.std.proofs.lemmas.Result.{err_from_is_err_and}
use Rattle.q3_clmsg.specs.Report.{move_words, spaced}
use Rattle.q3_report.proofs.server.print_run_move.Goals as goal

pub returns-in_err-write_all-clause-adds : goal.returns-in_err-write_all-clause-adds
returns-in_err-write_all-clause-adds g c =
    let p = err_from_is_err_and c.from_residual.result c.from_residual.ensures.1 in
    rw p.1 (c.texts_follow.ensures.early (spaced (move_words c.args.one) ++ codes "\n") c.in_err-write_all.ensures.adds refl)

pub returns-in_err-print_move-clause-adds : goal.returns-in_err-print_move-clause-adds
returns-in_err-print_move-clause-adds g c =
    let p = err_from_is_err_and c.from_residual-in_err-print_move.result c.from_residual-in_err-print_move.ensures.1 in
    let law = c.texts_follow.ensures in
    rw p.1 (law.more c.in_ok-write_all.ensures.adds (law.early (codes "\n") c.in_err-print_move.ensures.adds refl) refl)

pub returns-clause-adds : goal.returns-clause-adds
returns-clause-adds g c =
    let law = c.texts_follow.ensures in
    law.more c.in_ok-write_all.ensures.adds (law.more c.in_ok-print_move.ensures.adds c.write_all-2.ensures.adds refl) refl
