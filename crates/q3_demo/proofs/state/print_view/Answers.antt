use Rattle.std.proofs.lemmas.Result.{err_from_is_err_and}
use Rattle.std.proofs.Common.{refl}
use Rattle.q3_rings.specs.Loans.{snapshot_of}
use Rattle.q3_clstate.specs.Report.{snapshot_text}
use Rattle.q3_demo.proofs.state.print_view.Goals as goal

pub returns-in_err-write_all-clause-adds : goal.returns-in_err-write_all-clause-adds
returns-in_err-write_all-clause-adds g c =
    let p = err_from_is_err_and c.from_residual.result c.from_residual.ensures.1 in
    rw p.1 (c.texts_follow.ensures.early (snapshot_text (snapshot_of c.args.view)) c.in_err-write_all.ensures.adds refl)
