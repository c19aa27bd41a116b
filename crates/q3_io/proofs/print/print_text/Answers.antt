use Rattle.std.proofs.Common.{refl}
use Rattle.std.proofs.lemmas.Result.{err_from_is_err_and}
use Rattle.q3_io.proofs.Sinks.{follow, ends_early}
use Rattle.q3_io.proofs.print.print_text.Goals as goal

pub returns-in_err-write_all-clause-adds : goal.returns-in_err-write_all-clause-adds
returns-in_err-write_all-clause-adds g c =
    let p = err_from_is_err_and c.from_residual.result c.from_residual.ensures.1 in
    rw p.1 (ends_early _ c.in_err-write_all.ensures.adds refl)

pub returns-in_err-print_spelled-clause-adds : goal.returns-in_err-print_spelled-clause-adds
returns-in_err-print_spelled-clause-adds g c =
    let p = err_from_is_err_and c.from_residual-in_err-print_spelled.result c.from_residual-in_err-print_spelled.ensures.1 in
    rw p.1 (follow c.in_ok-write_all.ensures.adds (ends_early _ c.in_err-print_spelled.ensures.adds refl) refl)

pub returns-clause-adds : goal.returns-clause-adds
returns-clause-adds g c = follow c.in_ok-write_all.ensures.adds (follow c.in_ok-print_spelled.ensures.adds c.write_all-2.ensures.adds refl) refl
