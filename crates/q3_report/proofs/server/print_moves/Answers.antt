use Rattle.std.proofs.Common.{[], pos, rules, arith}
use Rattle.std.proofs.lemmas.Result.{err_from_is_err_and}
use Rattle.q3_clmsg.specs.declared.moves.Move.{Move}
use Rattle.q3_clmsg.specs.Report.{move_text}
use Rattle.q3_report.proofs.server.print_moves.Goals as goal

abbrev none : Move
none = record { time = 0; angles = []; forward = pos 0; right = pos 0; up = pos 0; buttons = 0; weapon = 0 }

pub returns-in_err-print_run_move-clause-adds : goal.returns-in_err-print_run_move-clause-adds
returns-in_err-print_run_move-clause-adds g c =
    let p = err_from_is_err_and c.from_residual.result c.from_residual.ensures.1 in
    rw p.1 (c.items_follow.ensures.early move_text c.args.moves.now c.loop-one.one-index none (omega arith) c.loop-one.invariant.0 c.in_err-print_run_move.ensures.adds)

pub loop-one-preserved : goal.loop-one-preserved
loop-one-preserved g c =
    (c.items_follow.ensures.more move_text c.args.moves.now c.loop-one.one-index none (omega arith) c.loop-one.invariant.0 c.in_ok-print_run_move.ensures.adds, search rules)
