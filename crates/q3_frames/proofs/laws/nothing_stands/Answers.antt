use Rattle.q3_frames.proofs.Lasting.{nothing_stands}
use Rattle.q3_frames.proofs.laws.nothing_stands.Goals as goal

pub returns : goal.returns
returns c = nothing_stands
