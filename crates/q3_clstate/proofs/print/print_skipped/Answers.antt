use Rattle.std.proofs.Common.{◌++◌, codes, refl}
use Rattle.std.proofs.lemmas.Result.{err_from_is_err_and}
use Rattle.q3_clstate.specs.Report.{cause_text}
use Rattle.q3_clstate.proofs.Lines.{skipped_line}
use Rattle.q3_clstate.proofs.print.print_skipped.Goals as goal

pub returns-in_err-print_base-clause-adds : goal.returns-in_err-print_base-clause-adds
returns-in_err-print_base-clause-adds g c =
    let p = err_from_is_err_and c.from_residual.result c.from_residual.ensures.1 in
    rw p.1 (c.texts_follow.ensures.early (cause_text c.args.cause ++ codes "\n") c.in_err-print_base.ensures.adds (skipped_line c.args.number c.args.base c.args.cause))

pub returns-in_err-print_cause-clause-adds : goal.returns-in_err-print_cause-clause-adds
returns-in_err-print_cause-clause-adds g c =
    let p = err_from_is_err_and c.from_residual-in_err-print_cause.result c.from_residual-in_err-print_cause.ensures.1 in
    rw p.1 (c.texts_follow.ensures.more c.in_ok-print_base.ensures.adds (c.texts_follow.ensures.early (codes "\n") c.in_err-print_cause.ensures.adds refl)
    (skipped_line c.args.number c.args.base c.args.cause))

pub returns-clause-adds : goal.returns-clause-adds
returns-clause-adds g c =
    c.texts_follow.ensures.more c.in_ok-print_base.ensures.adds (c.texts_follow.ensures.more c.in_ok-print_cause.ensures.adds c.write_all.ensures.adds refl)
    (skipped_line c.args.number c.args.base c.args.cause)
