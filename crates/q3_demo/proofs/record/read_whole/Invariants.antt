use Rattle.std.proofs.Common.{◌≡◌, ◌-◌, ◌≤◌, length}
use Rattle.std.specs.Prelude.{IsTrue}
use Rattle.q3_demo.specs.Running.{OnlyAsks, AsksOf}
use Rattle.q3_demo.proofs.Asking.{Costs}
use Rattle.q3_demo.proofs.Whole.{HasCome}
use Rattle.q3_demo.proofs.record.read_whole.Given as goal

abbrev pub invariant-loop-count : goal.invariant-loop-count
invariant-loop-count g l = record {
  come : HasCome (g.F.Files.told l.initial.files) l.file l.at l.into l.count;
  fits : l.count ≤ length l.into;
  room : length l.into ≡ length l.initial.into;
  given : g.F.Files.given l.files ≡ g.F.Files.given l.initial.files;
  asks : OnlyAsks (g.F.Files.told l.initial.files) (g.F.Files.told l.files);
  only : AsksOf l.file (g.F.Files.told l.initial.files) (g.F.Files.told l.files);
  cost : IsTrue g.F.Files.reads_whole → Costs (g.F.Files.told l.initial.files) (g.F.Files.told l.files) l.file l.at (length l.into) l.count;
  reads : g.F.Files.faults l.files ≡ g.F.Files.faults l.initial.files;
  others : g.F.Files.write_faults l.files ≡ g.F.Files.write_faults l.initial.files;
}

abbrev pub decreases-loop-count : goal.decreases-loop-count
decreases-loop-count g l = length l.into - l.count
