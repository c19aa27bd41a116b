-- Laws of the server's end.
use Rattle.std.specs.Prelude.{◌≡◌, ℕ, ◌+◌, ◌^◌, ◌<◌, Bool, true, false, List, IfSome, None}
use Rattle.q3_io.specs.declared.address.Address.{Address}
use Rattle.q3_profile.specs.declared.profile.Profile.{Profile}
use Rattle.q3_profile.specs.Profile.{IsCodec}
use Rattle.q3_fields.specs.Kinds.{end_mark}
use Rattle.q3_fields.specs.States.{AreWords}
use Rattle.q3_entity.specs.declared.state.EntityState.{EntityState}
use Rattle.q3_player.specs.declared.state.PlayerState.{PlayerState}
use Rattle.q3_player.specs.State.{IsState}
use Rattle.q3_config.specs.Strings.{admit_fault}
use Rattle.q3_map.specs.Map.{MapState, no_map, set_time_at, set_entity_at, remove_entity_at, begins_game, after_new_map, set_baseline_at, with_config}
use Rattle.q3_chan.specs.Datagrams.{sequence_end}
use Rattle.q3_frames.specs.Frames.{FramesState}
use Rattle.q3_built.specs.Built.{IsArea, IsBuilt, is_unclear}
use Rattle.q3_slot.specs.Slot.{SlotState}
use Rattle.q3_slot.specs.Emitting.{begun_next, next_game_built}
use Rattle.q3_slot.specs.Standing.{IsSlot}
use Rattle.q3_server.specs.Server as of_server
use Rattle.q3_server.specs.Server.{ServerState, slot_at, new_server, add_client_at, set_player_at, set_area_at, set_delayed_at, set_config_at, say_at, emit_at}
use Rattle.q3_server.specs.Taking.{take_at}
use Rattle.q3_server.specs.Standing.{IsMap, IsJoined, HoldSnapshots, IsServerState, BeginsBuilt}

-- a map is well formed before the first, and stays so: with another time, with an entity set or taken away, where a gamestate of it is
-- begun, where a new one begins, and with a baseline or a config string set
pub record MapStays : Type 0 where
  pub none : (profile : Profile) → IsMap profile no_map
  pub timed : (profile : Profile) (map : MapState) (time : ℕ) → time < 2 ^ 32 → IsMap profile map → IsMap profile (set_time_at map time)
  pub entered : (profile : Profile) (map : MapState) (state : EntityState) → IsCodec profile → state.number < end_mark profile.entity → AreWords 64 state.words → IsMap profile map
      → IsMap profile (set_entity_at profile.entity map state)
  pub removed : (profile : Profile) (map : MapState) (number : ℕ) → IsMap profile map → IsMap profile (remove_entity_at map number)
  pub begun : (profile : Profile) (map : MapState) → IsMap profile map → IsMap profile (begins_game map)
  pub new_map : (profile : Profile) (map : MapState) (id feed : ℕ) → id < 2 ^ 31 → feed < 2 ^ 32 → IsMap profile map → IsMap profile (after_new_map map id feed)
  pub baselined : (profile : Profile) (map : MapState) (state : EntityState) → IsCodec profile → state.number < end_mark profile.entity → AreWords 64 state.words → IsMap profile map
      → IsMap profile (set_baseline_at profile.entity map state).map
  pub configured : (profile : Profile) (map : MapState) (index : ℕ) (text : List ℕ) → (index ≡ 1 → ⊥) → admit_fault map.strings index text ≡ None → IsMap profile map
      → IsMap profile (with_config map index text)

-- a server is well formed with no client, before the first map, and stays so: where a client joins, with a new map, with a baseline, with
-- an entity set or taken away, with another time, with what is handed in for a client, with a config string, with a command to a client,
-- whatever it emits, and whatever bytes arrive
pub record ServerStays : Type 0 where
  pub none : (profile : Profile) (slots : ℕ) → IsCodec profile → IsServerState (new_server profile slots)
  pub joins : (server : ServerState) (c challenge qport : ℕ) (address : Address) → IsServerState server → IsServerState (add_client_at server c challenge qport address).server
  pub new_map : (server : ServerState) (id feed : ℕ) → id < 2 ^ 31 → feed < 2 ^ 32 → IsServerState server → IsServerState (of_server.new_map_at server id feed).server
  pub baseline : (server : ServerState) (state : EntityState) → state.number < end_mark server.profile.entity → AreWords 64 state.words → IsServerState server
      → IsServerState (of_server.set_baseline_at server state).server
  pub entity : (server : ServerState) (state : EntityState) → state.number < end_mark server.profile.entity → AreWords 64 state.words → IsServerState server
      → IsServerState (of_server.set_entity_at server state)
  pub remove : (server : ServerState) (number : ℕ) → IsServerState server → IsServerState (of_server.remove_entity_at server number)
  pub time : (server : ServerState) (time : ℕ) → time < 2 ^ 32 → IsServerState server → IsServerState (of_server.set_time_at server time)
  pub player : (server : ServerState) (c : ℕ) (player : PlayerState) → IsState player → IsServerState server → IsServerState (set_player_at server c player).server
  pub area : (server : ServerState) (c : ℕ) (area : List ℕ) → IsArea area → IsServerState server → IsServerState (set_area_at server c area).server
  pub delays : (server : ServerState) (c : ℕ) (on : Bool) → IsServerState server → IsServerState (set_delayed_at server c on).server
  pub config : (server : ServerState) (index : ℕ) (text : List ℕ) → IsServerState server → IsServerState (set_config_at server index text).server
  pub says : (server : ServerState) (c : ℕ) (text : List ℕ) → IsServerState server → IsServerState (say_at server c text).server
  pub emits : (server : ServerState) (c : ℕ) → IsServerState server → IsServerState (emit_at server c).server
  pub takes : (server : ServerState) (from : Address) (bytes : List ℕ) → IsServerState server → IsServerState (take_at server from bytes).server

-- a snapshot or a gamestate that goes to a slot next is a message as a server builds it, where the map, the client, its slot and the frames
-- are as a server keeps them and its leading long isn't hidden; and so is what is begun for the client in a slot, whatever the server keeps
pub record BeginsAsBuilt : Type 0 where
  pub snapshot : (profile : Profile) (map : MapState) (slot : SlotState) → IsCodec profile → IsMap profile map → IsJoined profile map.id slot → IsSlot slot
      → (frames : FramesState) (c : ℕ) → HoldSnapshots profile frames → slot.sending.number + 1 < sequence_end → is_unclear profile slot.executed.executed ≡ false
      → IsBuilt profile slot.challenge (slot.sending.number + 1) (begun_next profile map frames c slot)
  pub game : (profile : Profile) (map : MapState) (slot : SlotState) → IsCodec profile → IsMap profile map → IsJoined profile map.id slot → IsSlot slot
      → (c : ℕ) → c < 2 ^ 32 → slot.owed ≡ true → is_unclear profile slot.executed.executed ≡ false
      → IsBuilt profile slot.challenge (slot.sending.number + 1) (next_game_built profile map c slot)
  pub began : (server : ServerState) (c : ℕ) → c < 2 ^ 32 → IfSome (slot_at server c) IsSlot → IsServerState server → BeginsBuilt server c
