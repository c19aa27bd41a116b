-- A call of the server for one client leaves what the others have.
use Rattle.std.specs.Prelude.{◌≡◌, ◌≢◌, ℕ, ◌+◌, ◌≤◌, Bool, List, [], slice_index_or, Option, Some, None, Result, Ok, Err}
use Rattle.q3_io.specs.declared.address.Address.{Address}
use Rattle.q3_chan.specs.declared.qport.NoQport.{NoQport}
use Rattle.q3_chan.specs.Checks.{is_checked}
use Rattle.q3_chan.specs.Senders.{qport_of}
use Rattle.q3_entity.specs.declared.state.EntityState.{EntityState}
use Rattle.q3_player.specs.declared.state.PlayerState.{PlayerState}
use Rattle.q3_entity.specs.Entities.{most_entities}
use Rattle.q3_entity_ring.specs.Places.{at_number}
use Rattle.q3_frames.specs.Frames.{FramesState, frame_under, held_frame}
use Rattle.q3_server.specs.Server.{ServerState, slot_at, add_client_at, set_baseline_at, set_entity_at, remove_entity_at, set_time_at, set_player_at, set_area_at, set_delayed_at, say_at, emit_at}
use Rattle.q3_server.specs.Taking.{sender_of, take_at}

-- the client that the server finds for bytes from an address, by the host and the qport, if it finds one
abbrev pub found_by : ServerState → Address → Result ℕ NoQport → Option ℕ
found_by server from (Ok qport) = sender_of server from.host qport
found_by server from (Err e) = None

abbrev pub taker_of : ServerState → Address → List ℕ → Option ℕ
taker_of server from bytes = found_by server from (qport_of (is_checked server.profile.protocol) bytes)

-- a slot loses frames by the ring alone: what stood in the place of a number is held after exactly where it was built under the
-- number, and the count at which its entities begin, with the ring's room added, is above the count of entities placed. The room
-- stays, and the count grows by one message's entities at most
pub record LosesByRing (d : ℕ) (old new : FramesState) : Type 0 where
  pub ring : new.ring ≡ old.ring
  pub grows : old.placed ≤ new.placed
  pub few : new.placed ≤ old.placed + most_entities
  pub held : (number : ℕ) → held_frame new d number ≡ frame_under old.ring new.placed number (at_number (slice_index_or old.slots d []) number)

-- the slot at a place is the same, and so are the frames of all slots
pub record SlotStays (d : ℕ) (old new : ServerState) : Type 0 where
  pub slot : slot_at new d ≡ slot_at old d
  pub frames : new.frames ≡ old.frames

-- the slot at a place is the same, and loses frames by the ring alone
pub record SlotStaysBeside (d : ℕ) (old new : ServerState) : Type 0 where
  pub slot : slot_at new d ≡ slot_at old d
  pub frames : LosesByRing d old.frames new.frames

-- a call for another client, or for the map alone, leaves a slot and all frames, in every state and whatever bytes arrive; but an
-- emission to another client builds a frame, whose entities take room of the ring. A new map, and a change of a config string, are
-- of every client
pub record SlotsApart : Type 0 where
  pub joins : (server : ServerState) (c challenge qport d : ℕ) (address : Address) → d ≢ c → SlotStays d server (add_client_at server c challenge qport address).server
  pub baseline : (server : ServerState) (state : EntityState) (d : ℕ) → SlotStays d server (set_baseline_at server state).server
  pub entity : (server : ServerState) (state : EntityState) (d : ℕ) → SlotStays d server (set_entity_at server state)
  pub remove : (server : ServerState) (number d : ℕ) → SlotStays d server (remove_entity_at server number)
  pub time : (server : ServerState) (time d : ℕ) → SlotStays d server (set_time_at server time)
  pub player : (server : ServerState) (c d : ℕ) (player : PlayerState) → d ≢ c → SlotStays d server (set_player_at server c player).server
  pub area : (server : ServerState) (c d : ℕ) (area : List ℕ) → d ≢ c → SlotStays d server (set_area_at server c area).server
  pub delays : (server : ServerState) (c d : ℕ) (on : Bool) → d ≢ c → SlotStays d server (set_delayed_at server c on).server
  pub says : (server : ServerState) (c d : ℕ) (text : List ℕ) → d ≢ c → SlotStays d server (say_at server c text).server
  pub emits : (server : ServerState) (c d : ℕ) → d ≢ c → SlotStaysBeside d server (emit_at server c).server
  pub takes : (server : ServerState) (d : ℕ) (from : Address) (bytes : List ℕ) → taker_of server from bytes ≢ Some d → SlotStays d server (take_at server from bytes).server
