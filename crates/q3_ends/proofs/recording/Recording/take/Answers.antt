use Rattle.std.proofs.Common.{sym, subst}
use Rattle.q3_client.specs.Client.{take_at}
use Rattle.q3_demo.specs.Recorder.{done}
use Rattle.q3_ends.specs.Recording.{RecordingState, StandsForName, WritesFiles, extends, recorder_took}
use Rattle.q3_ends.proofs.Files.{done_cause, extends_file}
use Rattle.q3_ends.proofs.recording.Recording.take.Goals as goal

pub returns-clause-files : goal.returns-clause-files
returns-clause-files g c =
    let took = take_at c.args.client.now c.args.bytes.now in
    let stands = subst (λ (r : RecordingState). StandsForName (g.F.Files.told c.args.files.now) c.args.number r.name) (sym c.self.view_is) c.requires.file.1 in
    subst (λ (r : RecordingState). WritesFiles (g.F.Files.told c.args.files.now) (g.F.Files.told c.record_taken.new.files) (g.F.Files.given c.args.files.now) (g.F.Files.given c.record_taken.new.files) (g.F.Files.faults c.args.files.now) (g.F.Files.faults c.record_taken.new.files) (g.F.Files.write_faults c.args.files.now) (g.F.Files.write_faults c.record_taken.new.files)
    (extends r.name (recorder_took r.stage c.args.client.now took took.answer).bytes) (done c.record_taken.result)) c.self.view_is
    (extends_file _ _ _ _ _ _ _ _ c.args.number c.self.inside.name _ (done c.record_taken.result) stands c.record_taken.ensures.adds c.record_taken.ensures.given
    (done_cause _ _ c.record_taken.result c.record_taken.ensures.cause) c.record_taken.ensures.others)
