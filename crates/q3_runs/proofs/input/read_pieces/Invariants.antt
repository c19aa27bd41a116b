use Rattle.std.proofs.Common.{◌≡◌, ◌+◌, ◌-◌, ◌<◌, length}
use Rattle.q3_demo.specs.Running.{AsksOf}
use Rattle.q3_runs.proofs.Reading.{HasRead}
use Rattle.q3_runs.proofs.input.read_pieces.Given as goal

abbrev pub invariant-loop-files : goal.invariant-loop-files
invariant-loop-files g l =
    (l.file < g.F.Files.given l.files)
    × (g.F.Files.faults l.files ≡ g.F.Files.faults l.initial.files)
    × (g.F.Files.write_faults l.files ≡ g.F.Files.write_faults l.initial.files)
    × HasRead (g.F.Files.told l.initial.files) (g.F.Files.told l.files) l.file l.bytes.items
    × AsksOf l.file (g.F.Files.told l.initial.files) (g.F.Files.told l.files)

abbrev pub decreases-loop-files : goal.decreases-loop-files
decreases-loop-files g l = l.most + 1 - length l.bytes.items
