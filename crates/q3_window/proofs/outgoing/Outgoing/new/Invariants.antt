use Rattle.std.proofs.Common.{◌≡◌, replicate}
use Rattle.q3_window.specs.Cells.{blank}
use Rattle.q3_window.proofs.outgoing.Outgoing.new.Given as goal

-- so many places are empty
abbrev pub invariant-loop : goal.invariant-loop
invariant-loop l = l.cells.items ≡ replicate l.counter blank
