use Rattle.q3_clmsg.proofs.MessageRead.{message_is_read}
use Rattle.q3_clmsg.proofs.laws.spelled_is_read.Goals as goal

pub returns : goal.returns
returns c = message_is_read c.put_is_read.ensures c.nops_are_nops.ensures c.row_spelled_is_read.ensures c.ending_spelled_is_read.ensures
