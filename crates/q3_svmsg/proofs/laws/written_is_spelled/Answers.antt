use Rattle.q3_svmsg.proofs.WrittenSpelled.{message_is_spelled}
use Rattle.q3_svmsg.proofs.laws.written_is_spelled.Goals as goal

pub returns : goal.returns
returns c =
    message_is_spelled (record {
      commands = c.commands_are_spelled.ensures;
      game = c.written_is_spelled.ensures;
      no_player = c.zero_is_normal.ensures;
      normal = c.normal_is_normal.ensures;
      player = c.written_is_spelled-2.ensures;
      list = c.list_is_spelled.ensures;
    })
