-- What a slot does with a datagram, and what it runs of its client's message.
use Rattle.std.specs.Prelude.{ℕ, ◌==◌, ◌&&◌, ◌||◌, not, nat_lt, if◌then◌else◌, Bool, true, List, [], ◌∷◌, Option, Some, None, Result, Ok, Err}
use Rattle.q3_io.specs.declared.address.Address.{Address}
use Rattle.q3_profile.specs.declared.profile.Profile.{Profile}
use Rattle.q3_bits.specs.Bits.{bits_of}
use Rattle.q3_bits.specs.ResultBind.{◌>>=◌, fault_as}
use Rattle.q3_chan.specs.declared.gatherer.Gathered.{Gathered}
use Rattle.q3_chan.specs.declared.gatherer.Gathered.TheVariants as gathered
use Rattle.q3_chan.specs.Gathering.{Took, gathered as gathered_of}
use Rattle.q3_chan.specs.Keys.{client_key, client_scrambled}
use Rattle.q3_window.specs.declared.outgoing.BadAck.{BadAck}
use Rattle.q3_window.specs.Outgoing.{acknowledge_at, text_at}
use Rattle.q3_window.specs.Incoming.{fresh_of, gap_in, executes}
use Rattle.q3_clmsg.specs.declared.heads.Heads.{Heads}
use Rattle.q3_clmsg.specs.declared.moves.Move.{Move}
use Rattle.q3_clmsg.specs.declared.error.ClientIllegible.{ClientIllegible}
use Rattle.q3_clmsg.specs.declared.error.ClientIllegible.TheVariants as causes
use Rattle.q3_clmsg.specs.Moves.{message_key}
use Rattle.q3_clmsg.specs.Values.{Message}
use Rattle.q3_clmsg.specs.Reading.{heads_in, client_message_in}
use Rattle.q3_slot.specs.declared.taking.Heard.{Heard}
use Rattle.q3_slot.specs.declared.taking.ServerTook.{ServerTook}
use Rattle.q3_slot.specs.declared.taking.ServerTook.TheVariants.{Runt, Connectionless, Old, OutOfOrder, BadCheck, BadFragment, Partial, Illegible, Ignored, Gap, Ran}
use Rattle.q3_map.specs.Map.{MapState, is_other}
use Rattle.q3_slot.specs.declared.stage.ClientStage.{ClientStage}
use Rattle.q3_slot.specs.declared.stage.ClientStage.TheVariants.{Connected, Primed, Active}
use Rattle.q3_slot.specs.Slot.{SlotState, game_of, is_active}

-- the moves of a message that are run: each whose time is above that of the last one run
unfoldable pub runs : ℕ → List Move → List Move
runs last [] = []
runs last (one ∷ moves) = if nat_lt last one.time then one ∷ runs one.time moves else runs last moves

-- the time of the last of these moves, or the one before them
unfoldable pub last_time : ℕ → List Move → ℕ
last_time before [] = before
last_time before (one ∷ moves) = last_time one.time moves

-- the time of the last move run, after these
abbrev pub last_run_of : ℕ → List Move → ℕ
last_run_of last moves = last_time last (runs last moves)

-- the number of the snapshot that a client asks for after a message with these moves: the one that it acknowledges, or none;
-- one without moves doesn't say
abbrev pub asked_with : ℕ → Message → List Move → ℕ
asked_with before message [] = before
asked_with before message (one ∷ moves) = if message.delta then message.acknowledged else 0

abbrev pub delta_after : ℕ → Message → ℕ
delta_after before message = asked_with before message message.moves

-- what the moves of a message do: how far its client comes, the number of the snapshot that it asks for then, the time of the
-- last move run, that of the move with which it enters the map, if it does, and the moves that are run
pub record Playing : Type 0 where
  pub stage : ClientStage
  pub delta : ℕ
  pub last_run : ℕ
  pub entered : Option ℕ
  pub moves : List Move

-- those of a client that plays are run, and it plays on
abbrev pub plays : ℕ → SlotState → Message → Playing
plays game slot message = record {
  stage = Active game;
  delta = delta_after slot.delta message;
  last_run = last_run_of slot.last_run message.moves;
  entered = None;
  moves = runs slot.last_run message.moves;
}

-- with the first of one that is primed it enters the map: that move isn't run, and its time counts as that of the last one
abbrev pub enters : ℕ → Move → List Move → Playing
enters game one moves = record {
  stage = Active game;
  delta = 0;
  last_run = last_run_of one.time moves;
  entered = Some one.time;
  moves = runs one.time moves;
}

-- those of one that is connected aren't run
abbrev pub waits : SlotState → Playing
waits slot = record { stage = Connected; delta = 0; last_run = slot.last_run; entered = None; moves = [] }

-- a message without moves leaves all as it is
abbrev pub stands : SlotState → Playing
stands slot = record { stage = slot.stage; delta = slot.delta; last_run = slot.last_run; entered = None; moves = [] }

-- how a client with moves goes on, by how far it came
abbrev pub moves_on : SlotState → Message → Move → List Move → ClientStage → Playing
moves_on slot message one moves Connected = waits slot
moves_on slot message one moves (Primed game) = enters game one moves
moves_on slot message one moves (Active game) = plays game slot message

abbrev pub goes_on : SlotState → Message → List Move → Playing
goes_on slot message [] = stands slot
goes_on slot message (one ∷ moves) = moves_on slot message one moves slot.stage

-- ---- a message of the map, or of another

-- what the leading longs of a message say
pub record Leading : Type 0 where
  pub id : ℕ
  pub acknowledged : ℕ
  pub command : ℕ

-- what came: a message of the map that its server plays, or one of another map, of which the leading longs alone count
pub data Came : Type 0 where
  OfMap : Message → Came
  OfOther : Leading → Came

-- the leading longs of a message
abbrev pub heads_of : Message → Leading
heads_of message = record { id = message.id; acknowledged = message.acknowledged; command = message.command }

-- and as they are read
abbrev pub leading_of : Heads → Leading
leading_of heads = record { id = heads.id; acknowledged = heads.acknowledged; command = heads.command }

-- what the whole value of a message is
abbrev pub came_as : MapState → Message → Came
came_as map message = if is_other map message.id then OfOther (heads_of message) else OfMap message

-- nothing was run; and whether a gamestate is owed
abbrev pub nothing_heard : Bool → Heard
nothing_heard owed = record { commands = []; moves = record { items = [] }; entered = None; owed = owed }

-- what a take of a slot gives: the slot after it, the answer, and what was run
pub record SlotTaken : Type 0 where
  pub slot : SlotState
  pub answer : ServerTook
  pub heard : Heard

-- a slot that runs nothing
abbrev pub answers : SlotState → ServerTook → SlotTaken
answers slot answer = record { slot = slot; answer = answer; heard = nothing_heard slot.owed }

-- whether a message number is above that of the last gamestate of the map, if one was begun
abbrev pub is_after_game : ℕ → Option ℕ → Bool
is_after_game number None = true
is_after_game number (Some game) = nat_lt game number

-- whether a message of another map makes a gamestate owed: where there is a map that its client doesn't play, and it came after
-- the last gamestate
abbrev pub asks_game : MapState → SlotState → Leading → Bool
asks_game map slot heads = not (map.id == 0) && not (is_active slot.stage) && is_after_game heads.acknowledged (game_of slot.stage)

-- a message of another map runs nothing, but its acknowledgement is taken, and a gamestate may be owed from then on
abbrev pub ignores : MapState → SlotState → ℕ → Leading → SlotTaken
ignores map slot c heads = answers (record slot {
  issued = (acknowledge_at slot.issued heads.command).window;
  owed = slot.owed || asks_game map slot heads;
}) (Ignored c heads.id)

-- a message runs: its acknowledgement is taken, its commands above the last one executed are executed, and its moves are run; but
-- where one of its commands leaves a gap nothing of it runs
abbrev pub run_with : SlotState → ℕ → ℕ → Message → Playing → SlotTaken
run_with slot c number message playing = record {
  slot = record slot {
    stage = playing.stage;
    issued = (acknowledge_at slot.issued message.command).window;
    executed = executes slot.executed message.commands;
    delta = playing.delta;
    last_run = playing.last_run;
  };
  answer = Ran c number;
  heard = record {
    commands = fresh_of slot.executed.executed message.commands;
    moves = record { items = playing.moves };
    entered = playing.entered;
    owed = slot.owed;
  };
}

abbrev pub run_unless : SlotState → ℕ → ℕ → Message → Option ℕ → SlotTaken
run_unless slot c number message (Some gap) = answers slot (Gap c gap)
run_unless slot c number message None = run_with slot c number message (goes_on slot message message.moves)

-- what a message of the map does to a slot
abbrev pub run_message : SlotState → ℕ → ℕ → Message → SlotTaken
run_message slot c number message = run_unless slot c number message (gap_in slot.executed.executed message.commands)

-- what a slot does with what was read under a number; what isn't legible changes nothing
abbrev pub run_read : MapState → SlotState → ℕ → ℕ → Result Came ClientIllegible → SlotTaken
run_read map slot c number (Ok (OfMap message)) = run_message slot c number message
run_read map slot c number (Ok (OfOther heads)) = ignores map slot c heads
run_read map slot c number (Err cause) = answers slot (Illegible c cause)

-- a message that came whole is read under its number, and every other answer is handed on
abbrev pub take_answer : MapState → SlotState → ℕ → Gathered → (ℕ → Result Came ClientIllegible) → SlotTaken
take_answer map slot c (gathered.Whole number count) read = run_read map slot c number (read number)
take_answer map slot c gathered.Partial read = answers slot (Partial c)
take_answer map slot c gathered.Old read = answers slot (Old c)
take_answer map slot c gathered.OutOfOrder read = answers slot (OutOfOrder c)
take_answer map slot c gathered.BadFragment read = answers slot (BadFragment c)
take_answer map slot c gathered.BadCheck read = answers slot (BadCheck c)
take_answer map slot c gathered.Runt read = answers slot Runt
take_answer map slot c gathered.Connectionless read = answers slot Connectionless

-- a slot with what was gathered, and what it does with a message that came whole
abbrev pub take_gathered : MapState → SlotState → ℕ → Took → (ℕ → Result Came ClientIllegible) → SlotTaken
take_gathered map slot c took read = take_answer map (record slot { gathering = took.gathering }) c took.answer read

-- an acknowledgement that the window takes, or the cause for which the message isn't legible
abbrev pub ack_taken : ℕ → Result (Unit {0}) BadAck → Result (Unit {0}) ClientIllegible
ack_taken ack (Ok x) = Ok x
ack_taken ack (Err e) = Err (causes.Ack ack)

-- a message cleared, by its leading longs and the text of the server command that it acknowledges, or as it is, by protocol 71
abbrev pub cleared : ℕ → ℕ → Heads → List ℕ → List ℕ → List ℕ
cleared protocol challenge heads text bytes = client_scrambled (client_key protocol challenge heads.id heads.acknowledged text) bytes

-- a message with the leading longs as they are read before it is cleared
abbrev pub with_heads : Heads → Message → Message
with_heads heads message = record message { id = heads.id; acknowledged = heads.acknowledged; command = heads.command }

-- what bytes are as a message with these leading longs, by the map's checksum feed and the text of the server command that it
-- acknowledges
abbrev pub said_under : Profile → ℕ → ℕ → Heads → List ℕ → List ℕ → Result Message ClientIllegible
said_under profile feed challenge heads text bytes = do
  message ← client_message_in profile.code (message_key feed heads.acknowledged text) (bits_of (cleared profile.protocol challenge heads text bytes))
  Ok (with_heads heads message)

-- a message of the map, or why it isn't legible
abbrev pub of_map : Result Message ClientIllegible → Result Came ClientIllegible
of_map (Ok message) = Ok (OfMap message)
of_map (Err cause) = Err cause

-- what bytes with these leading longs come as: of a message of another map no more is read
abbrev pub came_under : Profile → MapState → ℕ → Heads → List ℕ → List ℕ → Result Came ClientIllegible
came_under profile map challenge heads text bytes =
    if is_other map heads.id then Ok (OfOther (leading_of heads))
    else of_map (said_under profile map.feed challenge heads text bytes)

-- what bytes are as a message of the client in a slot: the leading longs count as they are read before it is cleared
abbrev pub said_by : Profile → MapState → SlotState → List ℕ → Result Came ClientIllegible
said_by profile map slot bytes = do
  heads ← fault_as causes.Bits (heads_in profile.code (bits_of bytes))
  taken ← ack_taken heads.command (acknowledge_at slot.issued heads.command).answer
  came_under profile map slot.challenge heads (text_at slot.issued heads.command) bytes

-- the client in a slot takes over the address from which its datagram came, also where that proves old
abbrev pub take_slot : Profile → MapState → ℕ → Address → List ℕ → SlotState → SlotTaken
take_slot profile map c from datagram slot =
    take_gathered map (record slot { address = from }) c (gathered_of slot.gathering datagram)
    (λ number. said_by profile map slot (gathered_of slot.gathering datagram).message)
