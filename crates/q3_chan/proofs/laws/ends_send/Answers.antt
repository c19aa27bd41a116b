use Rattle.q3_chan.proofs.Ends.{ends_send}
use Rattle.q3_chan.proofs.laws.ends_send.Goals as goal

pub returns : goal.returns
returns c = ends_send
