use Rattle.q3_chan.proofs.Cutting.{pieces_are_whole}
use Rattle.q3_chan.proofs.laws.pieces_are_whole.Goals as goal

pub returns : goal.returns
returns c = pieces_are_whole
