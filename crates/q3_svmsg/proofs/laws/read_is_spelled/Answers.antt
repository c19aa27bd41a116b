use Rattle.q3_svmsg.proofs.MessageSpelled.{message_was_spelled}
use Rattle.q3_svmsg.proofs.laws.read_is_spelled.Goals as goal

pub returns : goal.returns
returns c =
    message_was_spelled (record {
      put = c.read_was_put.ensures;
      bytes = c.bytes_were_put.ensures;
      row = c.row_read_is_spelled.ensures;
      ending = c.ending_read_is_spelled.ensures;
      game = c.read_is_spelled.ensures;
      no_player = c.zero_is_normal.ensures;
      player = c.read_is_spelled-2.ensures;
      list = c.list_read_is_spelled.ensures;
      skipped = c.skipped_is_spelled.ensures;
    })
