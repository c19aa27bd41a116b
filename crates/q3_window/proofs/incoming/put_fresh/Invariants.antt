use Rattle.std.proofs.Common.{◌≡◌, ◌≤◌, ◌++◌, drop, length}
use Rattle.q3_window.specs.Incoming.{fresh_of}
use Rattle.q3_window.proofs.incoming.put_fresh.Given as goal

-- what was put and what is left to put make the whole
abbrev pub invariant-loop-command : goal.invariant-loop-command
invariant-loop-command l = record {
  whole : l.ran ++ fresh_of l.last (drop l.command-index l.commands) ≡ fresh_of l.executed l.commands;
  few : length l.ran ≤ l.command-index;
}
