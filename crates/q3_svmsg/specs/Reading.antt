-- What a reader of a server's message answers: its value, or the first refusal in reading order.
use Rattle.std.specs.Prelude.{ℕ, zero, suc, ◌+◌, ◌-◌, ◌==◌, nat_lt, Bool, if◌then◌else◌, List, [], length, Option, Some, None, Result, Ok, Err}
use Rattle.q3_bits.specs.ResultBind.{◌>>=◌, fault_as}
use Rattle.q3_bits.specs.Words.{field_at}
use Rattle.q3_bits.specs.declared.reader.ReadError.{ReadError}
use Rattle.q3_strings.specs.declared.error.OperationError.{OperationError}
use Rattle.q3_strings.specs.declared.error.OperationError.TheVariants as operations
use Rattle.q3_strings.specs.Reading.{string_bytes_at}
use Rattle.q3_strings.specs.Operations.{row_at, ending_at}
use Rattle.q3_player.specs.declared.head.SnapHead.{SnapHead}
use Rattle.q3_player.specs.State.{zero_player}
use Rattle.q3_player.specs.Delta.{player_at}
use Rattle.q3_entity.specs.declared.state.EntityState.{EntityState}
use Rattle.q3_entity.specs.Baselines.{Baselines}
use Rattle.q3_entity.specs.Lists.{entity_list_at, list_skipped}
use Rattle.q3_profile.specs.declared.profile.Profile.{Profile}
use Rattle.q3_gamestate.specs.declared.error.GamestateError.{GamestateError}
use Rattle.q3_gamestate.specs.declared.error.GamestateError.TheVariants as games
use Rattle.q3_gamestate.specs.Values.{Gamestate}
use Rattle.q3_gamestate.specs.Reading.{gamestate_at}
use Rattle.q3_svmsg.specs.declared.message.Section.{Section}
use Rattle.q3_svmsg.specs.declared.error.Illegible.{Illegible}
use Rattle.q3_svmsg.specs.declared.error.Illegible.TheVariants.{Bits, BadOp, Entity, Player, Area, Config, TextLong, NoServerId, Commands}
use Rattle.q3_svmsg.specs.Values.{Base, base_player, base_entities, number_of_base, section_of, Context, Told, Nothing, Game, Snap, Skipped, Message}

-- the answer of a reader of a section that leaves a gamestate or a snapshot in its places
abbrev pub telling : Gamestate → SnapHead → List EntityState → Result Section Illegible → Result Told Illegible
telling game head entities (Ok section) = Ok (section_of section game head entities)
telling game head entities (Err e) = Err e

-- faults of operations, as those of messages
abbrev pub operation_error : OperationError → Illegible
operation_error (operations.Bits e) = Bits e
operation_error (operations.BadOp operation) = BadOp operation
operation_error operations.TextLong = TextLong
operation_error operations.Commands = Commands

-- faults of gamestates, as those of messages
abbrev pub game_error : GamestateError → Illegible
game_error (games.Bits e) = Bits e
game_error (games.BadOp operation) = BadOp operation
game_error games.TextLong = TextLong
game_error (games.Config e) = Config e
game_error (games.Entity e) = Entity e
game_error games.NoServerId = NoServerId

-- a field of so many bits
abbrev pub field_read : List (List Bool) → ℕ → List Bool → Result (ℕ × List Bool) Illegible
field_read words width bits = fault_as Bits (field_at words width bits)

-- the leading long, and how many bits it takes
abbrev pub ack_at : List (List Bool) → List Bool → Result (ℕ × ℕ) ReadError
ack_at words bits = do
  ack ← field_at words 32 bits
  Ok (ack.0, length bits - length ack.1)

-- a gamestate after its operation
unfoldable pub game_at : Profile → List Bool → Result (Told × List Bool) Illegible
game_at profile bits = do
  game ← fault_as game_error (gamestate_at profile bits)
  Ok (Game game.0, game.1)

-- the player and the entities of a snapshot against a base, or without one
unfoldable pub snapshot_at : Profile → Baselines → Option Base → ℕ → SnapHead → List Bool → Result (Told × List Bool) Illegible
snapshot_at profile baselines against base head bits = do
  player ← fault_as Player (player_at profile.code profile.player.kinds (base_player against) bits)
  entities ← fault_as Entity (entity_list_at profile.code profile.entity baselines (base_entities against) player.1)
  Ok (Snap base (record head { player = player.0 }) entities.0, entities.1)

-- a snapshot whose base isn't held is read to its end
unfoldable pub snapshot_skipped : Profile → List Bool → Result (Unit {0} × List Bool) Illegible
snapshot_skipped profile bits = do
  player ← fault_as Player (player_at profile.code profile.player.kinds zero_player bits)
  fault_as Entity (list_skipped profile.code profile.entity player.1)

-- the snapshot that a number names, if it is held; 0 names none
abbrev pub held_base : Context → ℕ → Option Base
held_base context zero = None
held_base context (suc base) = context.base (base + 1)

-- the rest of a snapshot whose base is at a distance: without one, against one that is held, or skipped
abbrev pub against_base : Profile → Context → ℕ → ℕ → Option Base → SnapHead → List Bool → Result (Told × List Bool) Illegible
against_base profile context distance base (Some held) head bits = snapshot_at profile context.baselines (Some held) base head bits
against_base profile context zero base None head bits = snapshot_at profile context.baselines None base head bits
against_base profile context (suc distance) base None head bits = do
  skipped ← snapshot_skipped profile bits
  Ok (Skipped base, skipped.1)

-- the area: up to 32 bytes
unfoldable pub area_at : List (List Bool) → List Bool → Result (List ℕ × List Bool) Illegible
area_at words bits = do
  count ← field_read words 8 bits
  if nat_lt 32 count.0 then Err (Area count.0) else fault_as Bits (string_bytes_at words count.0 count.1)

-- a snapshot after its operation
unfoldable pub section_at : Profile → Context → ℕ → List Bool → Result (Told × List Bool) Illegible
section_at profile context number bits = do
  time ← field_read profile.code 32 bits
  distance ← field_read profile.code 8 time.1
  flags ← field_read profile.code 8 distance.1
  area ← area_at profile.code flags.1
  against_base profile context distance.0 (number_of_base number distance.0) (held_base context (number_of_base number distance.0))
      (record { number = number; time = time.0; flags = flags.0; area = record { items = area.0 }; player = zero_player }) area.1

-- a message with its section, and what follows its end
unfoldable pub ended_at : List (List Bool) → Message → Told × List Bool → Result (Message × List Bool) Illegible
ended_at words message section = do
  ending ← fault_as operation_error (ending_at words 8 (length section.1) section.1)
  Ok (record message { section = section.0 }, ending.1)

-- a message after its commands, by the operation that follows them: the end, a gamestate, or a snapshot
unfoldable pub rest_at : Profile → Context → ℕ → ℕ → Message → List Bool → Result (Message × List Bool) Illegible
rest_at profile context number operation message bits =
    if operation == 8 then Ok (message, bits) else
    if operation == 2 then (do
      section ← game_at profile bits
      ended_at profile.code message section) else
    if operation == 7 then (do
      section ← section_at profile context number bits
      ended_at profile.code message section)
    else Err (BadOp operation)

-- after the leading long: nops and commands, and the end of the message or its section
unfoldable pub operations_at : Profile → Context → ℕ → Message → List Bool → Result (Message × List Bool) Illegible
operations_at profile context number message bits = do
  row ← fault_as operation_error (row_at profile.code 5 (length bits) message.commands bits)
  rest_at profile context number row.0.operation (record message { commands = row.0.commands }) row.1

-- a server's message under a number: its value, and what follows its end
unfoldable pub server_message_at : Profile → Context → ℕ → List Bool → Result (Message × List Bool) Illegible
server_message_at profile context number bits = do
  ack ← field_read profile.code 32 bits
  operations_at profile context number (record { ack = ack.0; commands = []; section = Nothing }) ack.1

-- a server's message: its value alone
abbrev pub server_message_in : Profile → Context → ℕ → List Bool → Result Message Illegible
server_message_in profile context number bits = server_message_at profile context number bits >>= λ read. Ok read.0
