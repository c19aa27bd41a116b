use Rattle.q3_chan.proofs.Tags.{tagged_does}
use Rattle.q3_chan.proofs.laws.tagged_does.Goals as goal

pub returns : goal.returns
returns c = tagged_does
