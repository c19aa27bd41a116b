use Rattle.std.proofs.Common.{◌≡◌, ◌-◌, ◌≤◌}
use Rattle.q3_demo.specs.Playing.{most_records}
use Rattle.q3_demo.specs.Running.{OnlyAsks}
use Rattle.q3_demo.proofs.Going.{Going}
use Rattle.q3_demo.proofs.playing.play_records.Given as goal

abbrev pub invariant-loop : goal.invariant-loop
invariant-loop g l = record {
  going : Going (g.F.Files.told l.initial.files) l.file (most_records - l.counter) l.initial.player.played l.player.played (g.O.Sink.written l.initial.out) (g.O.Sink.written l.out);
  given : g.F.Files.given l.files ≡ g.F.Files.given l.initial.files;
  asks : OnlyAsks (g.F.Files.told l.initial.files) (g.F.Files.told l.files);
  few : l.player.played.records ≤ l.counter;
  reads : g.F.Files.faults l.files ≡ g.F.Files.faults l.initial.files;
  others : g.F.Files.write_faults l.files ≡ g.F.Files.write_faults l.initial.files;
  sink : g.O.Sink.faults l.out ≡ g.O.Sink.faults l.initial.out;
}
