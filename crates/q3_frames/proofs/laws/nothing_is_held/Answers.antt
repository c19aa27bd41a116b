use Rattle.q3_frames.proofs.Lasting.{nothing_is_held}
use Rattle.q3_frames.proofs.laws.nothing_is_held.Goals as goal

pub returns : goal.returns
returns c = nothing_is_held
