use Rattle.q3_savestate.specs.Lending.{saved_of}
use Rattle.q3_savestate.proofs.state.read_state.Goals as goal

pub of-requires-clause-applied : goal.of-requires-clause-applied
of-requires-clause-applied c =
    let read = c.in_ok-contents.ensures in
    let was = c.read_state_is_written.ensures c.args.profile.now c.args.bytes.now (saved_of c.in_ok-contents.contents) c.codec_stands.ensures c.requires.least c.bytes_fit.ensures read.0 in
    was.0
