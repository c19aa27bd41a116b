use Rattle.std.proofs.Common.{Option, Ok, subst, sym}
use Rattle.q3_client.specs.Client.{take_at}
use Rattle.q3_ends.specs.Recording.{RecordingState, WritesFiles, note_taken}
use Rattle.q3_ends.proofs.Files.{writes_nothing}
use Rattle.q3_ends.proofs.recording.take.Goals as goal

pub returns-in_default-clause-files : goal.returns-in_default-clause-files
returns-in_default-clause-files g c =
    subst (λ (recording : Option RecordingState). WritesFiles (g.F.Files.told c.args.files.now) (g.F.Files.told c.args.files.now) (g.F.Files.given c.args.files.now) (g.F.Files.given c.args.files.now) (g.F.Files.faults c.args.files.now) (g.F.Files.faults c.args.files.now) (g.F.Files.write_faults c.args.files.now) (g.F.Files.write_faults c.args.files.now)
    (note_taken recording c.args.client.now (take_at c.args.client.now c.args.bytes.now)).acts (Ok tt))
    (sym c.in_default.is) (writes_nothing _ _ _ _)
