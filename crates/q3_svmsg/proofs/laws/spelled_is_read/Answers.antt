use Rattle.q3_svmsg.proofs.MessageRead.{message_is_read}
use Rattle.q3_svmsg.proofs.laws.spelled_is_read.Goals as goal

pub returns : goal.returns
returns c =
    message_is_read (record {
      put = c.put_is_read.ensures;
      bytes = c.bytes_are_read.ensures;
      nops = c.nops_are_nops.ensures;
      row = c.row_spelled_is_read.ensures;
      ending = c.ending_spelled_is_read.ensures;
      game = c.spelled_is_read.ensures;
      no_player = c.zero_is_normal.ensures;
      player = c.spelled_is_read-2.ensures;
      list = c.list_spelled_is_read.ensures;
      skipped = c.spelled_is_skipped.ensures;
    })
