use Rattle.q3_chan.proofs.OneSender.{gathered_is_one}
use Rattle.q3_chan.proofs.laws.gathered_is_one.Goals as goal

pub returns : goal.returns
returns c = gathered_is_one
