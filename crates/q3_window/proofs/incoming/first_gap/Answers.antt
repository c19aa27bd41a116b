use Rattle.std.proofs.Common.{◌+◌, drop, sym, ap, ◌∙◌, arith}
use Rattle.std.proofs.lemmas.List.{drop_all}
use Rattle.q3_window.specs.Incoming.{gap_in}
use Rattle.q3_window.proofs.Runs.{gap_known, gap_next, gap_past, item_is}
use Rattle.q3_window.proofs.incoming.first_gap.Goals as goal

pub loop-command-preserved-then-command-reached : goal.loop-command-preserved-then-command-reached
loop-command-preserved-then-command-reached c =
    let command = c.command-item.result in
    let place = c.loop-command.command-index in
    let commands = c.args.commands.now in
    sym (gap_known c.loop-command.reached command (drop (place + 1) commands) (omega arith))
    ∙ sym (ap (gap_in c.loop-command.reached) (item_is commands place command (omega arith) c.command-item.is)) ∙ c.loop-command.invariant

pub returns-then-command-reached-gt1 : goal.returns-then-command-reached-gt1
returns-then-command-reached-gt1 c =
    let command = c.command-item.result in
    let place = c.loop-command.command-index in
    let commands = c.args.commands.now in
    sym (gap_past c.loop-command.reached command (drop (place + 1) commands) (omega arith))
    ∙ sym (ap (gap_in c.loop-command.reached) (item_is commands place command (omega arith) c.command-item.is)) ∙ c.loop-command.invariant

pub loop-command-preserved : goal.loop-command-preserved
loop-command-preserved c =
    let command = c.command-item.result in
    let place = c.loop-command.command-index in
    let commands = c.args.commands.now in
    sym (gap_next c.loop-command.reached command (drop (place + 1) commands) (omega arith))
    ∙ sym (ap (gap_in c.loop-command.reached) (item_is commands place command (omega arith) c.command-item.is)) ∙ c.loop-command.invariant

pub returns : goal.returns
unfolding gap_in
returns c =
    sym (ap (gap_in c.loop-command.reached) (drop_all c.loop-command.command-index c.args.commands.now (omega arith))) ∙ c.loop-command.invariant
