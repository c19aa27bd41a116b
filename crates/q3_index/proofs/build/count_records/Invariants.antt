use Rattle.std.proofs.Common.{◌≡◌, ◌-◌, ◌≤◌}
use Rattle.q3_demo.specs.Playing.{most_records}
use Rattle.q3_demo.specs.Running.{OnlyAsks}
use Rattle.q3_index.proofs.Counting.{GoesAs}
use Rattle.q3_index.proofs.build.count_records.Given as goal

abbrev pub invariant-loop-player : goal.invariant-loop-player
invariant-loop-player g l = record {
  counts : GoesAs (g.F.Files.told l.initial.files) l.demo l.profile l.player.played;
  few : l.player.played.records ≤ most_records;
  given : g.F.Files.given l.files ≡ g.F.Files.given l.initial.files;
  asks : OnlyAsks (g.F.Files.told l.initial.files) (g.F.Files.told l.files);
  reads : g.F.Files.faults l.files ≡ g.F.Files.faults l.initial.files;
  others : g.F.Files.write_faults l.files ≡ g.F.Files.write_faults l.initial.files;
}

abbrev pub decreases-loop-player : goal.decreases-loop-player
decreases-loop-player g l = most_records - l.player.played.records
