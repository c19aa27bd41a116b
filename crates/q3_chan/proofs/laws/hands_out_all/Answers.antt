use Rattle.q3_chan.proofs.Handing.{hands_out_all}
use Rattle.q3_chan.proofs.laws.hands_out_all.Goals as goal

pub returns : goal.returns
returns c = hands_out_all
