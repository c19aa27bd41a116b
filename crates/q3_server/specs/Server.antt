-- The server's end: what the game handed in for all clients, and a slot for each of them. Each call gives the server
-- after it, and its answer.
use Rattle.std.specs.Prelude.{ℕ, ◌==◌, if◌then◌else◌, Bool, position, List, length, map, replicate, nat_le, Option, Some, None, option_map, slice_set, slice_index_or, Result, Ok, Err}
use Rattle.q3_io.specs.declared.address.Address.{Address}
use Rattle.q3_chan.specs.Sending.{Piece}
use Rattle.q3_profile.specs.declared.profile.Profile.{Profile}
use Rattle.q3_player.specs.declared.state.PlayerState.{PlayerState}
use Rattle.q3_entity.specs.declared.state.EntityState.{EntityState}
use Rattle.q3_frames.specs.Frames.{FramesState, no_frames}
use Rattle.q3_map.specs.Map as of_map
use Rattle.q3_map.specs.Map.{MapState, no_map, with_config}
use Rattle.q3_map.specs.declared.map.NotLater.{NotLater}
use Rattle.q3_map.specs.declared.map.Late.{Late}
use Rattle.q3_config.specs.declared.error.ConfigError.{ConfigError}
use Rattle.q3_config.specs.declared.error.ConfigError.TheVariants as faults
use Rattle.q3_config.specs.Strings.{has_string, admit_fault}
use Rattle.q3_config.specs.Laws.{piece_texts}
use Rattle.q3_slot.specs.declared.answer.Emitted.{Emitted}
use Rattle.q3_slot.specs.declared.answer.Emitted.TheVariants as emitted
use Rattle.q3_slot.specs.declared.answer.NoClient.{NoClient}
use Rattle.q3_slot.specs.declared.answer.SayError.{SayError}
use Rattle.q3_slot.specs.declared.answer.SayError.TheVariants as refused
use Rattle.q3_built.specs.Built.{Built}
use Rattle.q3_slot.specs.Slot.{SlotState, new_slot, on_new_map, is_of, sending_of, with_player, with_area, with_delayed}
use Rattle.q3_slot.specs.Slots.{lacks_room, say_slot, tells}
use Rattle.q3_slot.specs.Emitting.{SlotEmission, emit_slot}
use Rattle.q3_server.specs.declared.server.SlotError.{SlotError}
use Rattle.q3_server.specs.declared.server.SlotError.TheVariants.{Range, Taken, Twin}
use Rattle.q3_server.specs.declared.server.ConfigRefused.{ConfigRefused}
use Rattle.q3_server.specs.declared.server.ConfigRefused.TheVariants.{Index, Own, Chars, Long, Full, WindowFull}

-- how many clients there may be
abbrev pub places : ℕ
places = 16

-- the config string that tells the map's id
abbrev pub own_string : ℕ
own_string = 1

-- the server: by which profile, what the game handed in, each client's slot at its place, and the frames that were built for
-- each slot
pub record ServerState : Type 0 where
  pub profile : Profile
  pub map : MapState
  pub slots : List (Option SlotState)
  pub frames : FramesState

-- a client's slot, by its place
abbrev pub slot_at : ServerState → ℕ → Option SlotState
slot_at server c = slice_index_or server.slots c None

-- the server with this slot at a place
abbrev pub with_slot : ServerState → ℕ → SlotState → ServerState
with_slot server c slot = record server { slots = slice_set server.slots c (Some slot) }

-- a server of so many slots with no client and no entity, at the time 0
abbrev pub new_server : Profile → ℕ → ServerState
new_server profile slots = record {
  profile = profile;
  map = no_map;
  slots = replicate slots None;
  frames = no_frames slots profile.server_ring;
}

-- ---- what the game hands in

-- the server after something was handed in, and the answer
pub record Handed (E : Type 0) : Type 0 where
  pub server : ServerState
  pub answer : Result (Unit {0}) E

-- a client joins, unless another has its host and qport: the one in the least such slot is its twin
abbrev pub add_apart : ServerState → ℕ → SlotState → Option ℕ → Handed SlotError
add_apart server c slot (Some twin) = record { server = server; answer = Err (Twin twin) }
add_apart server c slot None = record { server = with_slot server c slot; answer = Ok tt }

-- a client takes over a place, unless there is one
abbrev pub add_to : ServerState → ℕ → SlotState → Option SlotState → Handed SlotError
add_to server c slot (Some old) = record { server = server; answer = Err Taken }
add_to server c slot None = add_apart server c slot (position (is_of slot.address.host slot.qport) server.slots)

-- a client joins, in a slot that the server has and that has none
abbrev pub add_client_at : ServerState → ℕ → ℕ → ℕ → Address → Handed SlotError
add_client_at server c challenge qport address =
    if nat_le (length server.slots) c then record { server = server; answer = Err Range }
    else add_to server c (new_slot server.profile.protocol challenge qport address) (slot_at server c)

-- the time, in milliseconds
abbrev pub set_time_at : ServerState → ℕ → ServerState
set_time_at server time = record server { map = of_map.set_time_at server.map time }

-- the whole state of an entity, in the normal form of the profile's table
abbrev pub set_entity_at : ServerState → EntityState → ServerState
set_entity_at server state = record server { map = of_map.set_entity_at server.profile.entity server.map state }

-- an entity is there no more; where there was none, nothing changes
abbrev pub remove_entity_at : ServerState → ℕ → ServerState
remove_entity_at server number = record server { map = of_map.remove_entity_at server.map number }

-- the map handed in anew, and the answer
abbrev pub mapped : (E : Type 0) → ServerState → of_map.Handed E → Handed E
mapped E server handed = record { server = record server { map = handed.map }; answer = handed.answer }

-- each client is connected to a new map
abbrev pub on_map : List (Option SlotState) → Result (Unit {0}) NotLater → List (Option SlotState)
on_map slots (Ok x) = map (option_map on_new_map) slots
on_map slots (Err e) = slots

-- a new map, whose id is above the last one's
abbrev pub new_map_at : ServerState → ℕ → ℕ → Handed NotLater
new_map_at server id feed =
    let handed = of_map.new_map_at server.map id feed in
    record { server = record server { map = handed.map; slots = on_map server.slots handed.answer }; answer = handed.answer }

-- a baseline of the map, in the normal form of the profile's table
abbrev pub set_baseline_at : ServerState → EntityState → Handed Late
set_baseline_at server state = mapped Late server (of_map.set_baseline_at server.profile.entity server.map state)

-- ---- config strings

-- why a config string can't be changed, where it can't
abbrev pub refused_for : ConfigError → ConfigRefused
refused_for faults.Index = Index
refused_for (faults.Chars byte) = Chars byte
refused_for faults.Long = Long
refused_for faults.Full = Full

-- the string is changed, and each client for which a gamestate was begun is told by commands
abbrev pub change_config : ServerState → ℕ → List ℕ → ServerState
change_config server index text = record server {
  map = with_config server.map index text;
  slots = map (option_map (tells (piece_texts index text))) server.slots;
}

-- unless one of them has no room for all texts: the least such slot is told
abbrev pub change_unless : ServerState → ℕ → List ℕ → Option ℕ → Handed ConfigRefused
change_unless server index text (Some c) = record { server = server; answer = Err (WindowFull c) }
change_unless server index text None = record { server = change_config server index text; answer = Ok tt }

-- a change to the text that is there is none
abbrev pub change_where : ServerState → ℕ → List ℕ → Handed ConfigRefused
change_where server index text =
    if has_string server.map.strings index text then record { server = server; answer = Ok tt }
    else change_unless server index text (position (lacks_room (piece_texts index text)) server.slots)

abbrev pub change_or : ServerState → ℕ → List ℕ → Option ConfigError → Handed ConfigRefused
change_or server index text (Some fault) = record { server = server; answer = Err (refused_for fault) }
change_or server index text None = change_where server index text

-- a config string but string 1, the server's own
abbrev pub set_config_at : ServerState → ℕ → List ℕ → Handed ConfigRefused
set_config_at server index text =
    if index == own_string then record { server = server; answer = Err Own }
    else change_or server index text (admit_fault server.map.strings index text)

-- a change for the client at a place, if there is one
abbrev pub give : ServerState → ℕ → (SlotState → SlotState) → Option SlotState → Handed NoClient
give server c change None = record { server = server; answer = Err (record {}) }
give server c change (Some slot) = record { server = with_slot server c (change slot); answer = Ok tt }

-- the player of a client
abbrev pub set_player_at : ServerState → ℕ → PlayerState → Handed NoClient
set_player_at server c player = give server c (λ slot. with_player server.profile slot player) (slot_at server c)

-- the area bytes of a client
abbrev pub set_area_at : ServerState → ℕ → List ℕ → Handed NoClient
set_area_at server c area = give server c (λ slot. with_area slot area) (slot_at server c)

-- whether the snapshots of a client are delayed by rate control
abbrev pub set_delayed_at : ServerState → ℕ → Bool → Handed NoClient
set_delayed_at server c on = give server c (λ slot. with_delayed slot on) (slot_at server c)

-- the number of the message to a client of which pieces are left, if there is one
abbrev pub sending_at : ServerState → ℕ → Option ℕ
sending_at server c = sending_of (slot_at server c)

-- the server after a command, and its number, or why it wasn't issued
pub record Saying : Type 0 where
  pub server : ServerState
  pub answer : Result ℕ SayError

-- a command for the client at a place, if there is one: the messages that are begun next carry it
abbrev pub say_to : ServerState → ℕ → List ℕ → Option SlotState → Saying
say_to server c text None = record { server = server; answer = Err refused.NoClient }
say_to server c text (Some slot) =
    let saying = say_slot slot text in
    record { server = with_slot server c saying.slot; answer = saying.answer }

abbrev pub say_at : ServerState → ℕ → List ℕ → Saying
say_at server c text = say_to server c text (slot_at server c)

-- ---- messages

-- what an emit of the server gives
pub record Emission : Type 0 where
  pub server : ServerState
  pub answer : Emitted
  pub began : Option Built
  pub piece : Option Piece

-- the emission of a slot in its place
abbrev pub emission_at : ServerState → ℕ → SlotEmission → Emission
emission_at server c emission = record {
  server = record (with_slot server c emission.slot) { map = emission.map; frames = emission.frames };
  answer = emission.answer;
  began = emission.began;
  piece = emission.piece;
}

-- an emission for the client at a place, if there is one
abbrev pub emit_from : ServerState → ℕ → Option SlotState → Emission
emit_from server c None = record { server = server; answer = emitted.NoClient; began = None; piece = None }
emit_from server c (Some slot) = emission_at server c (emit_slot server.profile server.map server.frames c slot slot.sending.under_way)

-- the server makes a datagram for a client
unfoldable pub emit_at : ServerState → ℕ → Emission
emit_at server c = emit_from server c (slot_at server c)
