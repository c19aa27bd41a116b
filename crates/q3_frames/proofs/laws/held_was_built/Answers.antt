use Rattle.q3_frames.proofs.Lasting.{held_was_built}
use Rattle.q3_frames.proofs.laws.held_was_built.Goals as goal

pub returns : goal.returns
returns c = held_was_built
