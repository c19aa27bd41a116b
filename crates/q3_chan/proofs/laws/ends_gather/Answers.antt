use Rattle.q3_chan.proofs.Ends.{ends_gather}
use Rattle.q3_chan.proofs.laws.ends_gather.Goals as goal

pub returns : goal.returns
returns c = ends_gather
