use Rattle.q3_chan.proofs.Tagging.{sent_is_tagged}
use Rattle.q3_chan.proofs.laws.sent_is_tagged.Goals as goal

pub returns : goal.returns
returns c = sent_is_tagged
