-- How a slot is kept, and what each call does to it, with a client or with none.
use Rattle.std.specs.Prelude.{◌≡◌, ℕ, ◌==◌, ◌&&◌, not, if◌then◌else◌, Bool, false, List, length, Option, Some, None, option_map, Result, Ok, Err}
use Rattle.q3_io.specs.declared.address.Address.{Address}
use Rattle.q3_chan.specs.Datagrams.{server_form, client_form}
use Rattle.q3_chan.specs.Sending.{Sending, Piece, new_sending}
use Rattle.q3_chan.specs.Gathering.{Gathering, new_gathering}
use Rattle.q3_window.specs.declared.outgoing.WindowFull.{WindowFull}
use Rattle.q3_window.specs.Outgoing.{OutgoingState, fits, issue_at, total_of, with_texts}
use Rattle.q3_config.specs.Commands.{Change, change_in}
use Rattle.q3_fields.specs.Kinds.{Layout}
use Rattle.q3_entity.specs.Entities.{IsList}
use Rattle.q3_clmsg.specs.declared.error.ClientIllegible.{ClientIllegible}
use Rattle.q3_clmsg.specs.Values.{Message}
use Rattle.q3_profile.specs.declared.profile.Profile.{Profile}
use Rattle.q3_entity_ring.specs.Snapshot.{Snapshot}
use Rattle.q3_frames.specs.Frames.{FramesState, base_of, held_frame}
use Rattle.q3_map.specs.Map.{MapState}
use Rattle.q3_built.specs.Built.{Built, built_of}
use Rattle.q3_slot.specs.declared.joined.Joined.{Joined}
use Rattle.q3_slot.specs.declared.shared.Shared.{Shared}
use Rattle.q3_slot.specs.declared.emitting.Recipient.{Recipient}
use Rattle.q3_slot.specs.declared.answer.Emitted.{Emitted}
use Rattle.q3_slot.specs.declared.answer.Emitted.TheVariants as emitted
use Rattle.q3_slot.specs.declared.answer.NoClient.{NoClient}
use Rattle.q3_slot.specs.declared.answer.SayError.{SayError}
use Rattle.q3_slot.specs.declared.answer.SayError.TheVariants as refused
use Rattle.q3_slot.specs.declared.taking.Heard.{Heard}
use Rattle.q3_slot.specs.declared.taking.ServerTook.{ServerTook}
use Rattle.q3_slot.specs.declared.taking.ServerTook.TheVariants as took
use Rattle.q3_slot.specs.declared.taking.Origin.{Origin}
use Rattle.q3_slot.specs.declared.taking.Origin.TheVariants as origins
use Rattle.q3_slot.specs.Slot.{SlotState, asked, is_connected}
use Rattle.q3_slot.specs.Emitting.{SlotEmission, next_frames, next_snapshot, begun_next, next_game_built, emit_built, emit_game, emit_slot, telling_under}
use Rattle.q3_slot.specs.Taking.{Came, OfMap, OfOther, Playing, goes_on, leading_of, nothing_heard, take_slot}

-- what is being sent to a client, what was gathered of what it sends, which commands were issued to it, and what is kept of it
-- beside that
abbrev pub slot_of : Sending → Gathering → OutgoingState → Joined → SlotState
slot_of sending gathering issued client = record {
  challenge = client.challenge;
  address = client.address;
  qport = client.qport;
  stage = client.stage;
  owed = client.owed;
  sending = sending;
  gathering = gathering;
  issued = issued;
  executed = client.executed;
  delta = client.delta;
  last_run = client.last_run;
  player = client.player;
  area = client.area;
  delayed = client.delayed;
}

-- the slot of a client to which these commands were issued, for what looks at neither its sending nor its gathering
abbrev pub slot_with : OutgoingState → Joined → SlotState
slot_with issued client = slot_of (new_sending (server_form None) 0) (new_gathering (client_form None)) issued client

-- every frame that a slot holds has a list of entities of a table
pub record HoldLists (table : Layout) (frames : FramesState) : Type 0 where
  pub listed : (slot number : ℕ) (held : Snapshot) → held_frame frames slot number ≡ Some held → IsList table held.entities

-- what is answered where something is handed in for the client of a slot
abbrev pub given : Option SlotState → Result (Unit {0}) NoClient
given None = Err (record {})
given (Some slot) = Ok tt

-- a command is refused where the window has no room
abbrev pub said_or : Result ℕ WindowFull → Result ℕ SayError
said_or (Ok number) = Ok number
said_or (Err e) = Err refused.WindowFull

-- whether a change is one of the string at an index
abbrev pub is_of_index : ℕ → Option Change → Bool
is_of_index index None = false
is_of_index index (Some change) = change.index == index

-- whether a command's text would change string 1, the server's own
abbrev pub changes_own : List ℕ → Bool
changes_own text = is_of_index 1 (change_in text)

-- a client's slot after a command, and the command's number, or why it isn't issued
pub record SlotSaying : Type 0 where
  pub slot : SlotState
  pub answer : Result ℕ SayError

-- a command is issued, where it fits
abbrev pub issues : SlotState → List ℕ → SlotSaying
issues slot text =
    let issuing = issue_at slot.issued text in
    record { slot = record slot { issued = issuing.window }; answer = said_or issuing.answer }

-- a command to a client for which a gamestate was begun
abbrev pub say_slot : SlotState → List ℕ → SlotSaying
say_slot slot text =
    if changes_own text then record { slot = slot; answer = Err refused.Own }
    else if is_connected slot.stage then record { slot = slot; answer = Err refused.NotPrimed }
    else issues slot text

-- a slot that may have no client, after a command
abbrev pub slot_saying : List ℕ → Option SlotState → Option SlotState
slot_saying text found = option_map (λ slot. (say_slot slot text).slot) found

-- its number, or why it isn't issued
abbrev pub said_of_slot : List ℕ → Option SlotState → Result ℕ SayError
said_of_slot text None = Err refused.NoClient
said_of_slot text (Some slot) = (say_slot slot text).answer

-- ---- config changes

-- whether a client that is told of config changes has no room for so many texts, with so many bytes together
abbrev pub lacks_places : ℕ → ℕ → Option SlotState → Bool
lacks_places count bytes None = false
lacks_places count bytes (Some slot) = not (is_connected slot.stage) && not (fits slot.issued count bytes)

-- whether one has no room for all texts of a change
abbrev pub lacks_room : List (List ℕ) → Option SlotState → Bool
lacks_room texts found = lacks_places (length texts) (total_of texts) found

-- a client is told of a config change, unless no gamestate of the map was begun for it
abbrev pub tells : List (List ℕ) → SlotState → SlotState
tells texts slot = if is_connected slot.stage then slot else record slot { issued = with_texts slot.issued texts }

-- ---- messages

-- what an emit of the client in a slot gives
abbrev pub emission_of : Profile → MapState → FramesState → ℕ → SlotState → SlotEmission
emission_of profile map frames c slot = emit_slot profile map frames c slot slot.sending.under_way

-- where a gamestate is owed to it
abbrev pub game_emission : Profile → MapState → FramesState → ℕ → SlotState → SlotEmission
game_emission profile map frames c slot = emit_game profile slot map frames (next_game_built profile map c slot)

-- and where none is
abbrev pub snapshot_emission : Profile → MapState → FramesState → ℕ → SlotState → SlotEmission
snapshot_emission profile map frames c slot = emit_built profile slot map (next_frames map frames c slot) (begun_next profile map frames c slot)

-- a gamestate's emission by what the slots share, and a snapshot's
abbrev pub game_for : Shared → ℕ → SlotState → SlotEmission
game_for shared c slot = game_emission shared.profile shared.map shared.frames c slot

abbrev pub snapshot_for : Shared → ℕ → SlotState → SlotEmission
snapshot_for shared c slot = snapshot_emission shared.profile shared.map shared.frames c slot

-- what a message with the shared head and the entities that its client sees is built of
abbrev pub built_for : Shared → Recipient → Built
built_for shared to =
    let slot = slot_with to.issued.now to.client.now in
    let snapshot : Snapshot = record { head = shared.head; entities = (next_snapshot shared.map slot).entities } in
    built_of (telling_under shared.profile slot shared.head.number) shared.map.baselines
    (base_of shared.frames to.slot shared.head.number (asked slot)) snapshot

-- the slot of the client to which a message goes, with this sending and gathering
abbrev pub slot_to : Recipient → Sending → Gathering → SlotState
slot_to to sending gathering = slot_of sending gathering to.issued.now to.client.now

-- the slot after an emit, the map and the frames, the answer, and what is handed out
abbrev pub slot_after : Profile → MapState → FramesState → ℕ → Option SlotState → Option SlotState
slot_after profile map frames c found = option_map (λ slot. (emission_of profile map frames c slot).slot) found

abbrev pub map_after : Profile → MapState → FramesState → ℕ → Option SlotState → MapState
map_after profile map frames c None = map
map_after profile map frames c (Some slot) = (emission_of profile map frames c slot).map

abbrev pub frames_after : Profile → MapState → FramesState → ℕ → Option SlotState → FramesState
frames_after profile map frames c None = frames
frames_after profile map frames c (Some slot) = (emission_of profile map frames c slot).frames

abbrev pub answer_of : Profile → MapState → FramesState → ℕ → Option SlotState → Emitted
answer_of profile map frames c None = emitted.NoClient
answer_of profile map frames c (Some slot) = (emission_of profile map frames c slot).answer

abbrev pub piece_of : Profile → MapState → FramesState → ℕ → Option SlotState → Option Piece
piece_of profile map frames c None = None
piece_of profile map frames c (Some slot) = (emission_of profile map frames c slot).piece

-- how a client goes on after a message of the map
abbrev pub goes_with : Sending → Gathering → OutgoingState → Joined → Message → Playing
goes_with sending gathering issued client message = goes_on (slot_of sending gathering issued client) message message.moves

-- and what is kept of it then
abbrev pub played : Joined → Playing → Joined
played client playing = record client { stage = playing.stage; delta = playing.delta; last_run = playing.last_run }

-- what a message that was read comes as, by the map that it is of
abbrev pub came_of : Message → Result Origin ClientIllegible → Result Came ClientIllegible
came_of message (Ok origins.Map) = Ok (OfMap message)
came_of message (Ok (origins.Other heads)) = Ok (OfOther (leading_of heads))
came_of message (Err cause) = Err cause

-- the slot after a datagram
abbrev pub slot_after_datagram : Profile → MapState → ℕ → Address → List ℕ → Option SlotState → Option SlotState
slot_after_datagram profile map c from datagram found = option_map (λ slot. (take_slot profile map c from datagram slot).slot) found

-- the answer to it, and what is run: nothing in a place with no client
abbrev pub answer_to : Profile → MapState → ℕ → Address → List ℕ → Option SlotState → ServerTook
answer_to profile map c from datagram None = took.Stranger
answer_to profile map c from datagram (Some slot) = (take_slot profile map c from datagram slot).answer

abbrev pub heard_of : Profile → MapState → ℕ → Address → List ℕ → Option SlotState → Heard
heard_of profile map c from datagram None = nothing_heard false
heard_of profile map c from datagram (Some slot) = (take_slot profile map c from datagram slot).heard
