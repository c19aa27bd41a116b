use Rattle.std.proofs.Common.{Ok, Err, inl, inr}
use Rattle.q3_runs.specs.Input.{with_items}
use Rattle.q3_runs.proofs.Demoing.{found_gives}
use Rattle.q3_runs.proofs.Reading.{file_read, file_given, file_missing}
use Rattle.q3_runs.proofs.AskedByName.{name_read, nothing_named, pieces_ask, looks_up}
use Rattle.q3_runs.proofs.input.read_file.Goals as goal

pub returns-clause-reads : goal.returns-clause-reads
returns-clause-reads g c =
    file_read c.args.most (g.F.Files.told c.args.files.now) (g.F.Files.told c.lookup.new.self) (g.F.Files.told c.read_pieces.new.files) c.in-Ok.file c.args.name.now
    (with_items c.read_pieces.result) c.in-Ok.ensures.told c.read_pieces.ensures.reads

pub returns-clause-gives : goal.returns-clause-gives
returns-clause-gives g c =
    inl (file_given c.args.most (g.F.Files.told c.args.files.now) (g.F.Files.told c.lookup.new.self) (g.F.Files.told c.read_pieces.new.files) c.in-Ok.file c.args.name.now
    (with_items c.read_pieces.result) c.in-Ok.ensures.told c.read_pieces.ensures.reads)

pub returns-in_default-clause-gives : goal.returns-in_default-clause-gives
returns-in_default-clause-gives g c =
    inr (tt, file_missing (g.F.Files.told c.args.files.now) (g.F.Files.told c.lookup.new.self) c.args.name.now c.in_default.field-0 c.in_default.ensures.told)

pub returns-in_err-piece-clause-gives : goal.returns-in_err-piece-clause-gives
returns-in_err-piece-clause-gives g c = inl (found_gives c.args.name.now (g.F.Files.told c.args.files.now) (g.F.Files.told c.lookup.new.self) c.in-Ok.file c.in-Ok.ensures.told)

pub returns-in_default-clause-asks : goal.returns-in_default-clause-asks
returns-in_default-clause-asks g c =
    nothing_named (g.F.Files.told c.args.files.now) (g.F.Files.told c.lookup.new.self) c.args.name.now
    (looks_up (g.F.Files.told c.args.files.now) (g.F.Files.told c.lookup.new.self) c.args.name.now (Err c.in_default.field-0) c.in_default.ensures.told)

pub returns-in_err-piece-clause-asks : goal.returns-in_err-piece-clause-asks
returns-in_err-piece-clause-asks g c =
    nothing_named (g.F.Files.told c.args.files.now) (g.F.Files.told c.lookup.new.self) c.args.name.now
    (looks_up (g.F.Files.told c.args.files.now) (g.F.Files.told c.lookup.new.self) c.args.name.now (Ok c.in-Ok.file) c.in-Ok.ensures.told)

pub returns-clause-asks : goal.returns-clause-asks
returns-clause-asks g c =
    name_read (g.F.Files.told c.args.files.now) (g.F.Files.told c.lookup.new.self) (g.F.Files.told c.read_pieces.new.files) c.args.name.now c.in-Ok.file c.in-Ok.ensures.told
    (pieces_ask c.args.most c.in-Ok.file (g.F.Files.told c.lookup.new.self) (g.F.Files.told c.read_pieces.new.files) (with_items c.read_pieces.result) c.read_pieces.ensures.reads) c.read_pieces.ensures.only
