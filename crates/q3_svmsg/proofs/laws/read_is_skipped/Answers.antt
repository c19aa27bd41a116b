use Rattle.q3_svmsg.proofs.Skipped.{message_is_skipped}
use Rattle.q3_svmsg.proofs.laws.read_is_skipped.Goals as goal

pub returns : goal.returns
returns c =
    message_is_skipped c.zero_is_normal.ensures c.spelled_is_read.ensures c.players_end_alike.ensures c.read_is_spelled.ensures c.list_spelled_is_read.ensures c.read_is_skipped.ensures
    c.skipped_is_spelled.ensures c.read_is_spelled-2.ensures c.spelled_is_read-2.ensures
