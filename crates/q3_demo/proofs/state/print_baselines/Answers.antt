use Rattle.std.proofs.Common.{◌≡◌, None, rules, arith}
use Rattle.std.proofs.lemmas.Result.{err_from_is_err_and}
use Rattle.q3_demo.specs.Report.{baseline_text}
use Rattle.q3_demo.proofs.state.print_baselines.Goals as goal

pub returns-in_err-print_baseline-clause-adds : goal.returns-in_err-print_baseline-clause-adds
returns-in_err-print_baseline-clause-adds g c =
    let p = err_from_is_err_and c.from_residual.result c.from_residual.ensures.1 in
    let lines : c.baselines.result.now ≡ c.args.state.now.baselines = search rules in
    rw p.1 (c.items_follow.ensures.early baseline_text c.args.state.now.baselines c.loop-number.number None (omega arith) c.loop-number.invariant.0 (rw lines at c.in_err-print_baseline.ensures.adds))
