use Rattle.std.proofs.Common.{◌≡◌, ◌<◌, ◌++◌, length, take, Ok, true}
use Rattle.std.specs.List.{flat_map}
use Rattle.byteorder.specs.Endian.{little_bytes}
use Rattle.q3_io.specs.Faults.{HasCause}
use Rattle.q3_io.specs.Written.{Wrote}
use Rattle.q3_io.specs.declared.sink.Failed.{Failed}
use Rattle.q3_entity.specs.Baselines.{most_baselines, set_baselines}
use Rattle.q3_savestate.specs.Entities.{entity_bytes}
use Rattle.q3_savestate.proofs.entities.write_baselines.Given as goal

abbrev pub invariant-loop-number : goal.invariant-loop-number
invariant-loop-number g l = record {
  adds : Wrote (g.O.Sink.written l.fn.out) (g.O.Sink.written l.out) (little_bytes 2 (length (set_baselines l.baselines)) ++ flat_map (entity_bytes l.table) (set_baselines (take l.number l.baselines))) true;
  cause : HasCause {T = Unit {0}} {E = Failed} (g.O.Sink.faults l.fn.out) (g.O.Sink.faults l.out) (Ok tt);
  places : 0 < l.number → length l.baselines ≡ most_baselines;
}
