use Rattle.std.proofs.Common.{◌≡◌, ◌-◌}
use Rattle.q3_demo.specs.Running.{OnlyAsks, AsksOf}
use Rattle.q3_index.proofs.Seeking.{GoesOn}
use Rattle.q3_index.proofs.Costing.{CostsSo}
use Rattle.q3_index.proofs.index.go_on.Given as goal

abbrev pub invariant-loop : goal.invariant-loop
invariant-loop g l = record {
  records : l.player.played.records ≡ l.counter;
  goes : GoesOn (g.F.Files.told l.initial.files) l.demo (l.number - l.initial.player.played.records) l.initial.player.played (l.number - l.counter) l.player.played;
  given : g.F.Files.given l.files ≡ g.F.Files.given l.initial.files;
  asks : OnlyAsks (g.F.Files.told l.initial.files) (g.F.Files.told l.files);
  only : AsksOf l.demo (g.F.Files.told l.initial.files) (g.F.Files.told l.files);
  cost : CostsSo g.F.Files.reads_whole (g.F.Files.told l.initial.files) (g.F.Files.told l.files) l.demo (l.number - l.initial.player.played.records) l.initial.player.played l.player.played;
  reads : g.F.Files.faults l.files ≡ g.F.Files.faults l.initial.files;
  others : g.F.Files.write_faults l.files ≡ g.F.Files.write_faults l.initial.files;
}
