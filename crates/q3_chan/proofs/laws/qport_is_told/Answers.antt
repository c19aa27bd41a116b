use Rattle.q3_chan.proofs.Senders.{qport_is_told}
use Rattle.q3_chan.proofs.laws.qport_is_told.Goals as goal

pub returns : goal.returns
returns c = qport_is_told
