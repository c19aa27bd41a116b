use Rattle.std.proofs.Common.{codes}
use Rattle.std.proofs.lemmas.Result.{err_from_is_err_and}
use Rattle.q3_rings.specs.Loans.{snapshot_of}
use Rattle.q3_clstate.specs.Report.{snapshot_text}
use Rattle.q3_report.proofs.Printing.{taken_in_parts}
use Rattle.q3_report.proofs.report.print_newest.Goals as goal

pub returns-in_err-print_numbered-clause-adds : goal.returns-in_err-print_numbered-clause-adds
returns-in_err-print_numbered-clause-adds g c =
    let p = err_from_is_err_and c.from_residual.result c.from_residual.ensures.1 in
    let text = snapshot_text (snapshot_of c.args.snapshot) in
    rw p.1 (c.texts_follow.ensures.early text (rw c.from.ensures at c.in_err-print_numbered.ensures.adds) (taken_in_parts (codes "show ") c.args.c text))

pub returns-clause-adds : goal.returns-clause-adds
returns-clause-adds g c =
    c.texts_follow.ensures.more (rw c.from.ensures at c.in_ok-print_numbered.ensures.adds) c.print_snapshot.ensures.adds
    (taken_in_parts (codes "show ") c.args.c (snapshot_text (snapshot_of c.args.snapshot)))
