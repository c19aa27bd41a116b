use Rattle.std.proofs.Common.{sym, subst}
use Rattle.q3_demo.specs.Recording.{closing}
use Rattle.q3_ends.specs.Recording.{RecordingState, StandsForName, WritesFiles, extends}
use Rattle.q3_ends.proofs.Files.{extends_file}
use Rattle.q3_ends.proofs.recording.Recording.stop.Goals as goal

pub returns : goal.returns
returns g c =
    let stands = subst (λ (r : RecordingState). StandsForName (g.F.Files.told c.args.files.now) c.args.number r.name) (sym c.self.view_is) c.requires.file.1 in
    record {
      files = subst (λ (r : RecordingState). WritesFiles (g.F.Files.told c.args.files.now) (g.F.Files.told c.stop.new.files) (g.F.Files.given c.args.files.now) (g.F.Files.given c.stop.new.files) (g.F.Files.faults c.args.files.now) (g.F.Files.faults c.stop.new.files) (g.F.Files.write_faults c.args.files.now) (g.F.Files.write_faults c.stop.new.files)
          (extends r.name (closing r.stage)) c.stop.result) c.self.view_is
          (extends_file _ _ _ _ _ _ _ _ c.args.number c.self.inside.name _ c.stop.result stands c.stop.ensures.adds c.stop.ensures.given
          c.stop.ensures.cause c.stop.ensures.others);
    }
