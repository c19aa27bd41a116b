use Rattle.std.proofs.Common.{◌++◌, codes, refl}
use Rattle.std.proofs.lemmas.Result.{err_from_is_err_and}
use Rattle.q3_entity.specs.Report.{fields_text}
use Rattle.q3_demo.proofs.Printed.{baseline_in_parts}
use Rattle.q3_demo.proofs.state.print_line.Goals as goal

pub returns-in_err-print_number-clause-adds : goal.returns-in_err-print_number-clause-adds
returns-in_err-print_number-clause-adds g c =
    let p = err_from_is_err_and c.from_residual.result c.from_residual.ensures.1 in
    rw p.1 (c.texts_follow.ensures.early (fields_text c.args.state.now.words ++ codes "\n") c.in_err-print_number.ensures.adds (baseline_in_parts c.args.state.now))

pub returns-in_err-print_fields-clause-adds : goal.returns-in_err-print_fields-clause-adds
returns-in_err-print_fields-clause-adds g c =
    let p = err_from_is_err_and c.from_residual-in_err-print_fields.result c.from_residual-in_err-print_fields.ensures.1 in
    let law = c.texts_follow.ensures in
    rw p.1 (law.more c.in_ok-print_number.ensures.adds (law.early (codes "\n") c.in_err-print_fields.ensures.adds refl) (baseline_in_parts c.args.state.now))

pub returns-clause-adds : goal.returns-clause-adds
returns-clause-adds g c =
    let law = c.texts_follow.ensures in
    law.more c.in_ok-print_number.ensures.adds (law.more c.in_ok-print_fields.ensures.adds c.write_all.ensures.adds refl) (baseline_in_parts c.args.state.now)
