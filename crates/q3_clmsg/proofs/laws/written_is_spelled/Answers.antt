use Rattle.q3_clmsg.proofs.MessageSpelled.{message_is_spelled}
use Rattle.q3_clmsg.proofs.laws.written_is_spelled.Goals as goal

pub returns : goal.returns
returns c = message_is_spelled c.commands_are_spelled.ensures
