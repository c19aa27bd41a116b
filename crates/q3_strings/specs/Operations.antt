-- The operations of a message, as a reader takes them: nops and commands up to another operation, and what follows a
-- message's section.
use Rattle.std.specs.Prelude.{ℕ, zero, suc, ◌==◌, nat_lt, Bool, if◌then◌else◌, List, [], ◌∷◌, ◌++◌, length, Result, Ok, Err}
use Rattle.q3_bits.specs.ResultBind.{◌>>=◌, fault_as}
use Rattle.q3_bits.specs.Words.{field_at}
use Rattle.q3_bits.specs.declared.reader.ReadError.TheVariants.{End}
use Rattle.q3_text.specs.declared.text.Command.{Command}
use Rattle.q3_text.specs.Places.{most_commands}
use Rattle.q3_strings.specs.declared.error.StringError.{StringError}
use Rattle.q3_strings.specs.declared.error.StringError.TheVariants as strings
use Rattle.q3_strings.specs.declared.error.OperationError.{OperationError}
use Rattle.q3_strings.specs.declared.error.OperationError.TheVariants.{Bits, BadOp, TextLong, Commands}
use Rattle.q3_strings.specs.Reading.{command_at}

-- a fault of a string, as one of operations
abbrev pub string_error : StringError → OperationError
string_error (strings.Bits e) = Bits e
string_error strings.Long = TextLong

-- commands, and the other operation after them
pub record Row : Type 0 where
  pub commands : List Command
  pub operation : ℕ

-- the answer of a reader that leaves the commands in their places
abbrev pub rowed : List Command → Result ℕ OperationError → Result Row OperationError
rowed commands (Ok operation) = Ok (record { commands = commands; operation = operation })
rowed commands (Err e) = Err e

-- one command more after its operation, where there are fewer than 64
unfoldable pub commands_at : List (List Bool) → List Command → List Bool → Result (List Command × List Bool) OperationError
commands_at words commands bits =
    if nat_lt (length commands) most_commands then (do
      command ← fault_as string_error (command_at words bits)
      Ok (commands ++ command.0 ∷ [], command.1))
    else Err Commands

-- nops and commands, these after the operation `command`, up to the first other operation; there are at most so many
-- operations, since each takes a bit
unfoldable pub row_at : List (List Bool) → ℕ → ℕ → List Command → List Bool → Result (Row × List Bool) OperationError
row_at words command zero commands bits = Err (Bits End)
row_at words command (suc most) commands bits = do
  operation ← fault_as Bits (field_at words 8 bits)
  if operation.0 == 1 then row_at words command most commands operation.1 else
      if operation.0 == command then (do
        more ← commands_at words commands operation.1
        row_at words command most more.0 more.1)
      else Ok (record { commands = commands; operation = operation.0 }, operation.1)

-- after a message's section: nops, and the operation `end`; there are at most so many operations, since each takes a bit
unfoldable pub ending_at : List (List Bool) → ℕ → ℕ → List Bool → Result (Unit {0} × List Bool) OperationError
ending_at words end zero bits = Err (Bits End)
ending_at words end (suc most) bits = do
  operation ← fault_as Bits (field_at words 8 bits)
  if operation.0 == end then Ok (tt, operation.1) else
      if operation.0 == 1 then ending_at words end most operation.1 else Err (BadOp operation.0)
