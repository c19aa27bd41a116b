use Rattle.std.proofs.Common.{◌≡◌, drop}
use Rattle.q3_clstate.specs.State.{after_texts}
use Rattle.q3_clstate.proofs.settings.MapSettings.execute.Given as goal

-- what is left to execute leads to the whole
abbrev pub invariant-loop-command : goal.invariant-loop-command
invariant-loop-command l = after_texts l.self (drop l.command-index l.commands) ≡ after_texts l.initial.self l.commands
