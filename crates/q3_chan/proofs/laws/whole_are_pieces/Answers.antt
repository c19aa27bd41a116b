use Rattle.q3_chan.proofs.AnyBytes.{whole_are_pieces}
use Rattle.q3_chan.proofs.laws.whole_are_pieces.Goals as goal

pub returns : goal.returns
returns c = whole_are_pieces
