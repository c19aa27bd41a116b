use Rattle.std.proofs.Common.{◌-◌, ◌≤◌, Ok, true}
use Rattle.std.specs.List.{flat_map}
use Rattle.q3_io.specs.Faults.{HasCause}
use Rattle.q3_io.specs.Written.{Wrote}
use Rattle.q3_io.specs.declared.sink.Failed.{Failed}
use Rattle.q3_rings.specs.ByNumber.{held_up_to}
use Rattle.q3_savestate.specs.Snapshots.{snapshot_bytes}
use Rattle.q3_savestate.proofs.snapshots.write_snapshots.Given as goal

-- those up to a number are written
abbrev pub invariant-loop-last : goal.invariant-loop-last
invariant-loop-last g l =
    Wrote (g.O.Sink.written l.initial.out) (g.O.Sink.written l.out) (flat_map (snapshot_bytes l.profile) (held_up_to l.rings.held l.last)) true
    × HasCause {T = Unit {0}} {E = Failed} (g.O.Sink.faults l.initial.out) (g.O.Sink.faults l.out) (Ok tt)
    × (l.last ≤ l.newest)

abbrev pub decreases-loop-last : goal.decreases-loop-last
decreases-loop-last g l = l.newest - l.last
