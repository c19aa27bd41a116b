use Rattle.std.proofs.Common.{◌++◌, codes, refl}
use Rattle.std.proofs.lemmas.Result.{err_from_is_err_and}
use Rattle.q3_report.proofs.Printing.{refused_in_parts}
use Rattle.q3_report.proofs.report.print_refused.Goals as goal

pub returns-in_err-print_line-clause-adds : goal.returns-in_err-print_line-clause-adds
returns-in_err-print_line-clause-adds g c =
    let p = err_from_is_err_and c.from_residual.result c.from_residual.ensures.1 in
    let reason = g.E.Refusal.told c.args.refusal.now in
    rw p.1 (c.texts_follow.ensures.early (reason ++ codes "\n") c.in_err-print_line.ensures.adds (refused_in_parts c.args.word.now c.args.number reason))

pub returns-in_err-print-clause-adds : goal.returns-in_err-print-clause-adds
returns-in_err-print-clause-adds g c =
    let p = err_from_is_err_and c.from_residual-in_err-print.result c.from_residual-in_err-print.ensures.1 in
    let law = c.texts_follow.ensures in
    let reason = g.E.Refusal.told c.args.refusal.now in
    rw p.1 (law.more c.in_ok-print_line.ensures.adds (law.early (codes "\n") c.in_err-print.ensures.adds refl) (refused_in_parts c.args.word.now c.args.number reason))

pub returns-clause-adds : goal.returns-clause-adds
returns-clause-adds g c =
    let law = c.texts_follow.ensures in
    law.more c.in_ok-print_line.ensures.adds (law.more c.in_ok-print.ensures.adds c.write_all.ensures.adds refl)
    (refused_in_parts c.args.word.now c.args.number (g.E.Refusal.told c.args.refusal.now))
