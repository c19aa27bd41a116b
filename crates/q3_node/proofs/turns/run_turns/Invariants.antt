use Rattle.std.proofs.Common.{◌≡◌, ◌≤◌, ◌-◌, length, true}
use Rattle.q3_io.specs.Written.{NothingWaits}
use Rattle.q3_ends.specs.Recording.{HasFile}
use Rattle.q3_node.specs.Node.{most_turns, new_node, receive_room}
use Rattle.q3_node.specs.Running.{effects, node_of, IsOn}
use Rattle.q3_node.proofs.Turning.{Going}
use Rattle.q3_node.proofs.turns.run_turns.Given as goal

abbrev pub invariant-loop : goal.invariant-loop
invariant-loop g l = record {
  going : Going g.E.End.rules (most_turns - l.counter) (new_node l.initial.end l.events) (node_of l.end l.events l.course) (g.C.Clock.readings l.initial.clock) (g.C.Clock.readings l.clock)
      (effects (g.O.Sink.written l.initial.out) (g.W.Wire.told l.initial.wire) (g.F.Files.told l.initial.files)) (effects (g.O.Sink.written l.out) (g.W.Wire.told l.wire) (g.F.Files.told l.files));
  bound : g.W.Wire.bound l.wire ≡ true;
  room : length l.buffer ≡ receive_room;
  on : IsOn l.events l.course;
  file : HasFile (g.F.Files.told l.files) (g.F.Files.given l.files) l.file (g.E.End.records l.end);
  flushed : NothingWaits (g.O.Sink.written l.initial.out) → NothingWaits (g.O.Sink.written l.out);
  wire : g.W.Wire.faults l.wire ≡ g.W.Wire.faults l.initial.wire;
  sink : g.O.Sink.faults l.out ≡ g.O.Sink.faults l.initial.out;
  writes : g.F.Files.write_faults l.files ≡ g.F.Files.write_faults l.initial.files;
  reads : g.F.Files.faults l.files ≡ g.F.Files.faults l.initial.files;
  numbers : g.F.Files.given l.initial.files ≤ g.F.Files.given l.files;
}
