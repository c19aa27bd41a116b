use Rattle.std.proofs.Common.{◌≡◌, ◌≢◌, Some, None}
use Rattle.q3_io.specs.Told.{Told, name_of}
use Rattle.q3_index.specs.Steps.{HasIndex, IsAged}
use Rattle.q3_index.proofs.Writing.{GoesWriting}
use Rattle.q3_index.proofs.build.write_checkpoints.Given as goal

abbrev pub invariant-loop : goal.invariant-loop
invariant-loop g l = record {
  writes : (told : Told) → g.F.Files.told l.initial.files ≡ Some told → HasIndex told l.index → name_of told l.demo ≢ name_of told l.index
      → GoesWriting told (g.F.Files.told l.files) l.demo l.index l.profile l.player.played;
  untold : g.F.Files.told l.initial.files ≡ None → g.F.Files.told l.files ≡ None;
  records : l.player.played.records ≡ l.counter;
  aged : IsAged l.player.played;
  by : l.player.played.state.profile ≡ l.profile;
  given : g.F.Files.given l.files ≡ g.F.Files.given l.initial.files;
  reads : g.F.Files.faults l.files ≡ g.F.Files.faults l.initial.files;
  fails : g.F.Files.write_faults l.files ≡ g.F.Files.write_faults l.initial.files;
}
