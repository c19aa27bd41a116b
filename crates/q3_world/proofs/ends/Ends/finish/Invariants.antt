use Rattle.std.proofs.Common.{Ok}
use Rattle.q3_ends.specs.Recording.{WritesFiles}
use Rattle.q3_world.specs.Files.{AreNumbered}
use Rattle.q3_world.proofs.Finishing.{HaveEnds, ended_acts}
use Rattle.q3_world.proofs.ends.Ends.finish.Given as goal

abbrev pub invariant-loop-c : goal.invariant-loop-c
invariant-loop-c g l =
    HaveEnds l.c l.initial.self l.self
    × WritesFiles (g.F.Files.told l.initial.files) (g.F.Files.told l.files) (g.F.Files.given l.initial.files) (g.F.Files.given l.files) (g.F.Files.faults l.initial.files) (g.F.Files.faults l.files)
    (g.F.Files.write_faults l.initial.files) (g.F.Files.write_faults l.files) (ended_acts l.initial.self l.c) (Ok tt)
    × AreNumbered (g.F.Files.told l.files) (g.F.Files.given l.files) l.numbers l.self
