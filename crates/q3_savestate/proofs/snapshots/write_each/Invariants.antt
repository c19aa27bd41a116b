use Rattle.std.proofs.Common.{take, Ok, true}
use Rattle.std.specs.List.{flat_map}
use Rattle.q3_io.specs.Faults.{HasCause}
use Rattle.q3_io.specs.Written.{Wrote}
use Rattle.q3_io.specs.declared.sink.Failed.{Failed}
use Rattle.q3_savestate.specs.Entities.{entity_bytes}
use Rattle.q3_savestate.proofs.snapshots.write_each.Given as goal

-- those up to here are written
abbrev pub invariant-loop-entity : goal.invariant-loop-entity
invariant-loop-entity g l =
    Wrote (g.O.Sink.written l.initial.out) (g.O.Sink.written l.out) (flat_map (entity_bytes l.profile.entity) (take l.entity-index l.entities)) true
    × HasCause {T = Unit {0}} {E = Failed} (g.O.Sink.faults l.initial.out) (g.O.Sink.faults l.out) (Ok tt)
