use Rattle.std.proofs.Common.{codes, decimal}
use Rattle.std.proofs.lemmas.Result.{err_from_is_err_and}
use Rattle.q3_clstate.specs.Report.{applied_text}
use Rattle.q3_demo.proofs.Printed.{record_in_parts}
use Rattle.q3_demo.proofs.lines.print_record.Goals as goal

pub returns-in_err-print_line-clause-adds : goal.returns-in_err-print_line-clause-adds
returns-in_err-print_line-clause-adds g c =
    let p = err_from_is_err_and c.from_residual.result c.from_residual.ensures.1 in
    let lines = applied_text c.args.state.now c.args.applied.now c.args.log.now.commands in
    rw p.1 (c.texts_follow.ensures.early lines c.in_err-print_line.ensures.adds
    (record_in_parts (codes "record ") (decimal c.args.index) (codes " number ") (decimal c.args.number) (codes "\n") lines))
