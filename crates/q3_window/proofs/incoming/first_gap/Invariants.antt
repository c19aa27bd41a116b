use Rattle.std.proofs.Common.{◌≡◌, drop}
use Rattle.q3_window.specs.Incoming.{gap_in}
use Rattle.q3_window.proofs.incoming.first_gap.Given as goal

-- none leaves a gap as far as here
abbrev pub invariant-loop-command : goal.invariant-loop-command
invariant-loop-command l = gap_in l.reached (drop l.command-index l.commands) ≡ gap_in l.executed l.commands
