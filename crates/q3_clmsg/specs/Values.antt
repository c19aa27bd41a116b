-- What a client's message says, as plain data.
use Rattle.std.specs.Prelude.{ℕ, Bool, false, List, []}
use Rattle.q3_text.specs.declared.text.Command.{Command}
use Rattle.q3_text.specs.Commands.{commands_of}
use Rattle.q3_clmsg.specs.declared.moves.Move.{Move}
use Rattle.q3_clmsg.specs.declared.message.ClientMessage.{ClientMessage}
use Rattle.q3_clmsg.specs.declared.message.SaidParts.{SaidParts}

-- the server id, the newest server message that came whole, the last server command that was executed, the client's own
-- commands, whether snapshots may be written against the newest, and the moves; without moves that is false
pub record Message : Type 0 where
  pub id : ℕ
  pub acknowledged : ℕ
  pub command : ℕ
  pub commands : List Command
  pub delta : Bool
  pub moves : List Move

-- what the program's type says
abbrev pub said_of : ClientMessage → Message
said_of message = record {
  id = message.id;
  acknowledged = message.acknowledged;
  command = message.command;
  commands = message.commands;
  delta = message.delta;
  moves = message.moves.items;
}

-- what parts say that are lent
abbrev pub parts_said : SaidParts → Message
parts_said parts = record {
  id = parts.id;
  acknowledged = parts.acknowledged;
  command = parts.command;
  commands = commands_of parts.commands;
  delta = parts.delta;
  moves = parts.moves.now;
}

-- the message with nothing in it
abbrev pub empty_message : Message
empty_message = record { id = 0; acknowledged = 0; command = 0; commands = []; delta = false; moves = [] }
