-- What a reader of a client's message answers: its value, or the first refusal in reading order.
use Rattle.std.specs.Prelude.{ℕ, ◌-◌, ◌==◌, nat_le, ◌&&◌, if◌then◌else◌, Bool, true, false, List, length, Result, Ok, Err}
use Rattle.q3_bits.specs.ResultBind.{◌>>=◌, fault_as}
use Rattle.q3_bits.specs.Words.{field_at}
use Rattle.q3_bits.specs.declared.reader.ReadError.{ReadError}
use Rattle.q3_strings.specs.declared.error.OperationError.{OperationError}
use Rattle.q3_strings.specs.declared.error.OperationError.TheVariants as operations
use Rattle.q3_strings.specs.Operations.{row_at, ending_at}
use Rattle.q3_clmsg.specs.declared.moves.Move.{Move}
use Rattle.q3_clmsg.specs.declared.heads.Heads.{Heads}
use Rattle.q3_clmsg.specs.declared.error.ClientIllegible.{ClientIllegible}
use Rattle.q3_clmsg.specs.declared.error.ClientIllegible.TheVariants.{Bits, BadOp, MoveCount, TextLong, Commands}
use Rattle.q3_clmsg.specs.Moves.{no_move, moves_at}
use Rattle.q3_clmsg.specs.Values.{Message, empty_message}

-- faults of operations, as those of messages
abbrev pub operation_error : OperationError → ClientIllegible
operation_error (operations.Bits e) = Bits e
operation_error (operations.BadOp operation) = BadOp operation
operation_error operations.TextLong = TextLong
operation_error operations.Commands = Commands

-- a field of so many bits
abbrev pub field_read : List (List Bool) → ℕ → List Bool → Result (ℕ × List Bool) ClientIllegible
field_read words width bits = fault_as Bits (field_at words width bits)

-- the three leading longs, and how many bits they take
unfoldable pub heads_at : List (List Bool) → List Bool → Result (Heads × List Bool) ReadError
heads_at words bits = do
  id ← field_at words 32 bits
  acknowledged ← field_at words 32 id.1
  command ← field_at words 32 acknowledged.1
  Ok (record { id = id.0; acknowledged = acknowledged.0; command = command.0; bits = length bits - length command.1 }, command.1)

-- these alone
abbrev pub heads_in : List (List Bool) → List Bool → Result Heads ReadError
heads_in words bits = heads_at words bits >>= λ read. Ok read.0

-- the moves after their operation: 1 to 32
unfoldable pub section_at : List (List Bool) → ℕ → List Bool → Result (List Move × List Bool) ClientIllegible
section_at words key bits = do
  count ← field_read words 8 bits
  if nat_le 1 count.0 && nat_le count.0 32 then fault_as Bits (moves_at words key count.0 no_move count.1) else Err (MoveCount count.0)

-- a message with its moves, and what follows its end
unfoldable pub moved_at : List (List Bool) → ℕ → Bool → Message → List Bool → Result (Message × List Bool) ClientIllegible
moved_at words key delta message bits = do
  moves ← section_at words key bits
  ending ← fault_as operation_error (ending_at words 5 (length moves.1) moves.1)
  Ok (record message { delta = delta; moves = moves.0 }, ending.1)

-- a message after its commands, by the operation that follows them: the end, or the moves
unfoldable pub rest_at : List (List Bool) → ℕ → ℕ → Message → List Bool → Result (Message × List Bool) ClientIllegible
rest_at words key operation message bits =
    if operation == 5 then Ok (message, bits) else
    if operation == 2 then moved_at words key true message bits else
    if operation == 3 then moved_at words key false message bits
    else Err (BadOp operation)

-- after the leading longs: nops and commands, and the end of the message or its moves
unfoldable pub operations_at : List (List Bool) → ℕ → Message → List Bool → Result (Message × List Bool) ClientIllegible
operations_at words key message bits = do
  row ← fault_as operation_error (row_at words 4 (length bits) message.commands bits)
  rest_at words key row.0.operation (record message { commands = row.0.commands }) row.1

-- a client's message by its key: its value, and what follows its end
unfoldable pub client_message_at : List (List Bool) → ℕ → List Bool → Result (Message × List Bool) ClientIllegible
client_message_at words key bits = do
  heads ← fault_as Bits (heads_at words bits)
  operations_at words key
      (record empty_message { id = heads.0.id; acknowledged = heads.0.acknowledged; command = heads.0.command }) heads.1

-- its value alone
abbrev pub client_message_in : List (List Bool) → ℕ → List Bool → Result Message ClientIllegible
client_message_in words key bits = client_message_at words key bits >>= λ read. Ok read.0
