use Rattle.q3_clmsg.proofs.MessageRead.{written_heads_are_read}
use Rattle.q3_clmsg.proofs.laws.heads_are_read.Goals as goal

pub returns : goal.returns
returns c = written_heads_are_read c.put_is_read.ensures
