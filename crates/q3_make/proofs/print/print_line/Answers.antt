use Rattle.std.proofs.Common.{refl, codes}
use Rattle.std.proofs.lemmas.Result.{err_from_is_err_and}
use Rattle.q3_make.proofs.print.print_line.Goals as goal

pub returns-in_err-print_event-clause-adds : goal.returns-in_err-print_event-clause-adds
returns-in_err-print_event-clause-adds g c =
    let p = err_from_is_err_and c.from_residual.result c.from_residual.ensures.1 in
    rw p.1 (c.texts_follow.ensures.early (codes "\n") c.in_err-print_event.ensures.adds refl)

pub returns-clause-adds : goal.returns-clause-adds
returns-clause-adds g c = c.texts_follow.ensures.more c.in_ok-print_event.ensures.adds c.write_all.ensures.adds refl
