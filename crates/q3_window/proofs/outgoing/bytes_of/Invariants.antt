use Rattle.std.proofs.Common.{◌≡◌, ◌*◌, ◌≤◌}
use Rattle.q3_window.specs.Outgoing.{total_of}
use Rattle.q3_window.specs.Cells.{texts_from}
use Rattle.q3_window.proofs.outgoing.bytes_of.Given as goal

-- so many texts were counted
abbrev pub invariant-loop-passed : goal.invariant-loop-passed
invariant-loop-passed l = record {
  total : l.bytes ≡ total_of (texts_from l.cells.items l.first l.passed);
  few : l.bytes ≤ 1023 * l.passed;
}
