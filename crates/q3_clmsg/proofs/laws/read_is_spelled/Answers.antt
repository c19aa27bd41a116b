use Rattle.q3_clmsg.proofs.MessageSpelled.{message_was_spelled}
use Rattle.q3_clmsg.proofs.laws.read_is_spelled.Goals as goal

pub returns : goal.returns
returns c = message_was_spelled c.read_was_put.ensures c.row_read_is_spelled.ensures c.ending_read_is_spelled.ensures
