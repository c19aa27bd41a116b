use Rattle.std.proofs.Common.{sym, rules, arith}
use Rattle.std.proofs.lemmas.Result.{err_from_is_err_and}
use Rattle.q3_window.specs.Report.{command_text}
use Rattle.q3_window.proofs.print.print_commands.Goals as goal

pub returns-in_err-print_command-clause-adds : goal.returns-in_err-print_command-clause-adds
returns-in_err-print_command-clause-adds g c =
    let p = err_from_is_err_and c.from_residual.result c.from_residual.ensures.1 in
    let item = c.command-item.result in
    rw p.1 (c.items_follow.ensures.early command_text c.args.commands.now c.loop-command.command-index item (omega arith) c.loop-command.invariant.0
    (rw (sym c.command-item.is) c.in_err-print_command.ensures.adds))

pub loop-command-preserved : goal.loop-command-preserved
loop-command-preserved g c =
    let item = c.command-item.result in (
      c.items_follow.ensures.more command_text c.args.commands.now c.loop-command.command-index item (omega arith) c.loop-command.invariant.0
          (rw (sym c.command-item.is) c.in_ok-print_command.ensures.adds),
      search rules,
    )
