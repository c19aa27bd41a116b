use Rattle.std.proofs.Common.{◌+◌, drop, sym, ap, ◌∙◌, arith}
use Rattle.std.proofs.lemmas.List.{drop_all}
use Rattle.q3_clstate.specs.State.{after_texts}
use Rattle.q3_clstate.proofs.Commands.{after_texts-cons, item_is}
use Rattle.q3_clstate.proofs.settings.MapSettings.execute.Goals as goal

pub loop-command-preserved : goal.loop-command-preserved
loop-command-preserved c =
    let command = c.command-item.result in
    let place = c.loop-command.command-index in
    let commands = c.args.commands.now in
    let settings = c.loop-command.self in
    rw c.run.ensures
    (sym (after_texts-cons settings command (drop (place + 1) commands))
    ∙ sym (ap (after_texts settings) (item_is commands place command (omega arith) c.command-item.is)) ∙ c.loop-command.invariant)

pub returns : goal.returns
unfolding after_texts
returns c =
    sym (ap (after_texts c.loop-command.self) (drop_all c.loop-command.command-index c.args.commands.now (omega arith))) ∙ c.loop-command.invariant
