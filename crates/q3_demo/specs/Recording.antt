-- A recording: from the first whole snapshot on, the messages that a client applied.
use Rattle.std.specs.Prelude.{ℕ, ◌-◌, ◌&&◌, nat_lt, if◌then◌else◌, Bool, false, List, [], ◌∷◌, ◌++◌, length, replicate, Option, Some, None, Result, Ok, Err}
use Rattle.std.specs.Result.{result_ok}
use Rattle.byteorder.specs.Endian.{little_bytes}
use Rattle.q3_bits.specs.Bits.{bits_of, message_bytes, message_length}
use Rattle.q3_bits.specs.ResultBind.{◌>>=◌, fault_as}
use Rattle.q3_bits.specs.Words.{field_at}
use Rattle.q3_text.specs.declared.text.Command.{Command}
use Rattle.q3_strings.specs.declared.error.OperationError.{OperationError}
use Rattle.q3_strings.specs.declared.error.OperationError.TheVariants.{Bits}
use Rattle.q3_strings.specs.Operations.{row_at}
use Rattle.q3_entity.specs.Baselines.{no_baselines}
use Rattle.q3_gamestate.specs.Values.{Gamestate}
use Rattle.q3_svmsg.specs.Values.{Message, Game, Snap}
use Rattle.q3_svmsg.specs.Texts.{server_message_bits}
use Rattle.q3_entity_ring.specs.Snapshot.{Snapshot}
use Rattle.q3_rings.specs.Rings.{view_at}
use Rattle.q3_clstate.specs.State.{AppliedState, Application}
use Rattle.q3_clstate.specs.declared.applied.Applied.{Applied}
use Rattle.q3_clstate.specs.declared.applied.SnapOutcome.{SnapOutcome}
use Rattle.q3_clstate.specs.declared.applied.SnapOutcome.TheVariants.{Accepted}
use Rattle.q3_demo.specs.declared.recorder.Stage.{Stage}
use Rattle.q3_demo.specs.declared.recorder.Stage.TheVariants.{Waits, Runs, Ended}
use Rattle.q3_demo.specs.Records.{longest_record}

-- the bytes of a record, and those of the end
abbrev pub record_bytes : ℕ → List ℕ → List ℕ
record_bytes number message = little_bytes 4 number ++ little_bytes 4 (length message) ++ message

abbrev pub end_bytes : List ℕ
end_bytes = replicate 8 255

-- ---- messages that are composed

-- the bytes of a message that is composed, unless it is too long
abbrev pub composed : List Bool → Option (List ℕ)
composed bits = if nat_lt longest_record (message_length (length bits)) then None else Some (message_bytes bits)

-- the gamestate that a client has: its strings and baselines as they are now, up to the last command that it executed
abbrev pub game_in : AppliedState → Gamestate
game_in state = record { command = state.executed.executed; strings = state.strings; baselines = state.baselines; slot = state.slot; feed = state.feed }

-- a message with it, by the number of the last command that the client issued
abbrev pub game_bits : AppliedState → ℕ → List Bool
game_bits state issued = server_message_bits state.profile no_baselines None (record { ack = issued; commands = []; section = Game (game_in state) })

-- what a message says before its section: its leading long, and its commands
pub record Front : Type 0 where
  pub ack : ℕ
  pub commands : List Command

abbrev pub front_at : List (List Bool) → List ℕ → Result Front OperationError
front_at words message = do
  ack ← fault_as Bits (field_at words 32 (bits_of message))
  row ← row_at words 5 (length ack.1) [] ack.1
  Ok (record { ack = ack.0; commands = row.0.commands })

-- the answer of a reader that leaves the commands in their places
abbrev pub fronted : List Command → Result ℕ OperationError → Result Front OperationError
fronted commands (Ok ack) = Ok (record { ack = ack; commands = commands })
fronted commands (Err e) = Err e

-- a message that says that, and a snapshot whole
abbrev pub whole_message : Front → Snapshot → Message
whole_message front snapshot = record { ack = front.ack; commands = front.commands; section = Snap 0 snapshot.head snapshot.entities }

abbrev pub whole_with : Option Front → Option Snapshot → Option Message
whole_with (Some front) (Some snapshot) = Some (whole_message front snapshot)
whole_with front snapshot = None

-- the message that was applied last, with its snapshot whole, if that was accepted
abbrev pub whole_of : AppliedState → List ℕ → Option Message
whole_of state message = whole_with (result_ok (front_at state.profile.code message)) (view_at state.held state.number)

abbrev pub whole_bits : AppliedState → Message → List Bool
whole_bits state message = server_message_bits state.profile state.baselines None message

-- ---- a recording goes on

-- what a message adds to the file, and how far the recording is after it
pub record Noting : Type 0 where
  pub stage : Stage
  pub bytes : List ℕ

-- where a message that is composed is too long, the recording ends before it
abbrev pub ends : Noting
ends = record { stage = Ended; bytes = end_bytes }

-- a record more
abbrev pub goes_on : ℕ → ℕ → List ℕ → Noting
goes_on first number message = record { stage = Runs first; bytes = record_bytes number message }

abbrev pub recomposed : ℕ → ℕ → Option (List ℕ) → Noting
recomposed first number None = ends
recomposed first number (Some message) = goes_on first number message

-- it begins with the gamestate that the client had before, under the number before
abbrev pub begins : ℕ → List ℕ → Option (List ℕ) → Noting
begins number message None = ends
begins number message (Some game) = record { stage = Runs number; bytes = record_bytes (number - 1) game ++ record_bytes number message }

-- whether a snapshot was accepted that is whole
abbrev pub is_whole : SnapOutcome → Bool
is_whole (Accepted base) = nat_lt base 1
is_whole other = false

-- whether it was accepted against one before the first that is recorded
abbrev pub is_before : ℕ → SnapOutcome → Bool
is_before first (Accepted base) = nat_lt 0 base && nat_lt base first
is_before first other = false

-- the message with its snapshot whole
abbrev pub composed_whole : AppliedState → Option Message → Option (List ℕ)
composed_whole state None = None
composed_whole state (Some message) = composed (whole_bits state message)

-- a message was applied: what it left, what became of it, its bytes, and the gamestate of before it, if that isn't too long
abbrev pub note_at : Stage → Option (List ℕ) → AppliedState → Applied → List ℕ → Noting
note_at Waits game state applied message = if is_whole applied.snap then begins applied.number message game else record { stage = Waits; bytes = [] }
note_at (Runs first) game state applied message =
    if is_before first applied.snap then recomposed first applied.number (composed_whole state (whole_of state message)) else goes_on first applied.number message
note_at Ended game state applied message = record { stage = Ended; bytes = [] }

-- ---- all of it

-- a message that a client applied: what was left before it, the number of the last command that the client had issued by then, its bytes,
-- and what it did
pub record Noted : Type 0 where
  pub before : AppliedState
  pub issued : ℕ
  pub message : List ℕ
  pub applied : Application

abbrev pub note_of : Stage → Noted → Noting
note_of stage noted = note_at stage (composed (game_bits noted.before noted.issued)) noted.applied.state noted.applied.answer noted.message

-- after these messages
unfoldable pub noted_from : Stage → List Noted → Noting
noted_from stage [] = record { stage = stage; bytes = [] }
noted_from stage (noted ∷ others) =
    let now = note_of stage noted in
    let rest = noted_from now.stage others in
    record rest { bytes = now.bytes ++ rest.bytes }

-- the end after a recording that goes on
abbrev pub closing : Stage → List ℕ
closing Ended = []
closing other = end_bytes

-- the file of a recording of these messages
abbrev pub recording : List Noted → List ℕ
recording messages =
    let all = noted_from Waits messages in
    all.bytes ++ closing all.stage
