use Rattle.q3_frames.proofs.Lasting.{built_is_held}
use Rattle.q3_frames.proofs.laws.built_is_held.Goals as goal

pub returns : goal.returns
returns c = built_is_held
