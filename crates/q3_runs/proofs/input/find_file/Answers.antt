use Rattle.std.proofs.Common.{inl, inr}
use Rattle.q3_runs.proofs.Demoing.{found_so, found_gives}
use Rattle.q3_runs.proofs.Reading.{file_missing}
use Rattle.q3_runs.proofs.input.find_file.Goals as goal

pub returns-clause-finds : goal.returns-clause-finds
returns-clause-finds g c = found_so c.args.name.now (g.F.Files.told c.args.files.now) (g.F.Files.told c.lookup.new.self) c.in-Ok.file c.in-Ok.ensures.told

pub returns-clause-gives : goal.returns-clause-gives
returns-clause-gives g c = inl (found_gives c.args.name.now (g.F.Files.told c.args.files.now) (g.F.Files.told c.lookup.new.self) c.in-Ok.file c.in-Ok.ensures.told)

pub returns-in_default-clause-gives : goal.returns-in_default-clause-gives
returns-in_default-clause-gives g c =
    inr (tt, file_missing (g.F.Files.told c.args.files.now) (g.F.Files.told c.lookup.new.self) c.args.name.now c.in_default.field-0 c.in_default.ensures.told)
