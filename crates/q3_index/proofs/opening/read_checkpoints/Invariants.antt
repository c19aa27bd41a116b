use Rattle.std.proofs.Common.{◌≡◌, Some, length}
use Rattle.q3_io.specs.Told.{Told, contents_at}
use Rattle.q3_demo.specs.Running.{OnlyAsks, AsksOf}
use Rattle.q3_index.specs.Steps.{ArePlaced, least_of}
use Rattle.q3_index.proofs.Listing.{FoundSo}
use Rattle.q3_index.proofs.opening.read_checkpoints.Given as goal

abbrev pub invariant-loop-k : goal.invariant-loop-k
invariant-loop-k g l = record {
  reads : (told : Told) → g.F.Files.told l.initial.files ≡ Some told → l.end ≡ length (contents_at told l.index)
      → FoundSo (contents_at told l.index) l.head l.k l.checkpoints.items (least_of l.least) l.at;
  placed : ArePlaced l.checkpoints.items;
  given : g.F.Files.given l.files ≡ g.F.Files.given l.initial.files;
  asks : OnlyAsks (g.F.Files.told l.initial.files) (g.F.Files.told l.files);
  only : AsksOf l.index (g.F.Files.told l.initial.files) (g.F.Files.told l.files);
  faults : g.F.Files.faults l.files ≡ g.F.Files.faults l.initial.files;
  others : g.F.Files.write_faults l.files ≡ g.F.Files.write_faults l.initial.files;
}
