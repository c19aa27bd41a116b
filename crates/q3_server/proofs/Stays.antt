-- A whole server stays well formed, whatever is called.
use Rattle.std.proofs.Common.{◌≡◌, ℕ, ◌^◌, ◌<◌, Bool, List, length, Option, Some, None, Result, Ok, Err, refl, inl, inr, option_map}
use Rattle.std.specs.Prelude.{◌==◌, nat_le, map as map_list, position, IfSome}
use Rattle.std.proofs.lemmas.Bool.{cases_Bool, cond_both, eqb-false}
use Rattle.q3_io.specs.declared.address.Address.{Address}
use Rattle.q3_profile.specs.declared.profile.Profile.{Profile}
use Rattle.q3_profile.specs.Profile.{IsCodec}
use Rattle.q3_fields.specs.Kinds.{end_mark}
use Rattle.q3_fields.specs.States.{AreWords}
use Rattle.q3_chan.specs.declared.qport.NoQport.{NoQport}
use Rattle.q3_chan.specs.declared.qport.NoQport.TheVariants as no
use Rattle.q3_chan.specs.Checks.{is_checked}
use Rattle.q3_chan.specs.Senders.{qport_of}
use Rattle.q3_player.specs.declared.state.PlayerState.{PlayerState}
use Rattle.q3_player.specs.State.{IsState}
use Rattle.q3_entity.specs.declared.state.EntityState.{EntityState}
use Rattle.q3_config.specs.declared.error.ConfigError.{ConfigError}
use Rattle.q3_config.specs.Strings.{admit_fault, has_string}
use Rattle.q3_config.specs.Laws.{piece_texts}
use Rattle.q3_map.specs.declared.map.NotLater.{NotLater}
use Rattle.q3_map.specs.Map as of_map
use Rattle.q3_map.specs.Map.{no_map, after_new_map, with_config}
use Rattle.q3_built.specs.Built.{IsArea}
use Rattle.q3_slot.specs.Slot.{SlotState, new_slot, on_new_map, is_of, with_player, with_area, with_delayed}
use Rattle.q3_slot.specs.Slots.{say_slot, tells, lacks_room}
use Rattle.q3_slot.specs.Taking.{take_slot}
use Rattle.q3_server.specs.declared.server.SlotError.{SlotError}
use Rattle.q3_server.specs.declared.server.SlotError.TheVariants.{Range}
use Rattle.q3_server.specs.declared.server.ConfigRefused.{ConfigRefused}
use Rattle.q3_server.specs.Server.{ServerState, Handed, own_string, slot_at, with_slot, new_server, add_apart, add_to, add_client_at, set_time_at, set_entity_at, remove_entity_at, on_map, new_map_at, set_baseline_at, change_unless, change_or, set_config_at, give, set_player_at, set_area_at, set_delayed_at, say_to, say_at, emit_from, emit_at}
use Rattle.q3_server.specs.Taking.{sender_of, take_by, take_from, take_headed, take_at}
use Rattle.q3_server.specs.Standing.{IsServer, IsJoined, IsServerState, Below}
use Rattle.q3_server.proofs.KeepsMap.{map_none, map_new}
use Rattle.q3_server.proofs.KeepsFrames.{snapshots_none}
use Rattle.q3_server.proofs.KeepsClients.{nobody, joined_new, joined_player, joined_area, joined_delayed, joined_issued, joined_took, at_place, place_set, server_goes_on, server_on_map}
use Rattle.q3_server.proofs.KeepsServer.{server_timed, server_entered, server_removed, server_baselined, server_configured}

-- with no client, before the first map
pub new_stays : Below → (profile : Profile) (count : ℕ) → IsCodec profile → IsServerState (new_server profile count)
new_stays below profile count codec =
    record { codec = codec; is_map = map_none below profile; clients = nobody profile no_map.id count; snapshots = snapshots_none below profile count profile.server_ring }

module _ (below : Below) (server : ServerState) (is : IsServerState server) where
  -- what is answered doesn't count
  abbrev Stays : {E : Type 0} → Handed E → Type 0
  Stays handed = IsServerState handed.server

  -- ---- a client

  -- one is put in a place
  put : (c : ℕ) (slot : SlotState) → IsJoined server.profile server.map.id slot → IsServerState (with_slot server c slot)
  put c slot joined = record { codec = is.codec; is_map = is.is_map; clients = place_set server.profile server.map.id server.slots c (Some slot) joined is.clients; snapshots = is.snapshots }

  -- one at a place, if there is one, is as each is
  here : (c : ℕ) → IfSome (slot_at server c) (IsJoined server.profile server.map.id)
  here c = at_place server.profile server.map.id server.slots c is.clients

  pub joins_stay : (c challenge qport : ℕ) (address : Address) → IsServerState (add_client_at server c challenge qport address).server
  joins_stay c challenge qport address =
      cond_both (nat_le (length server.slots) c) (record { server = server; answer = Err Range }) (add_to server c (new_slot server.profile.protocol challenge qport address) (slot_at server c))
      (λ (handed : Handed SlotError). Stays handed) (λ past. is) (λ within. of_found (slot_at server c))
    where
      of_twin : (twin : Option ℕ) → IsServerState (add_apart server c (new_slot server.profile.protocol challenge qport address) twin).server
      of_twin (Some twin) = is
      of_twin None = put c (new_slot server.profile.protocol challenge qport address) (joined_new below server.profile server.map.id challenge qport address is.codec)

      of_found : (found : Option SlotState) → IsServerState (add_to server c (new_slot server.profile.protocol challenge qport address) found).server
      of_found (Some old) = is
      of_found None = of_twin (position (is_of address.host qport) server.slots)

  -- what is handed in for one
  gives : (c : ℕ) (change : SlotState → SlotState) (found : Option SlotState)
      → ((slot : SlotState) → IsJoined server.profile server.map.id slot → IsJoined server.profile server.map.id (change slot))
      → IfSome found (IsJoined server.profile server.map.id) → IsServerState (give server c change found).server
  gives c change None keeps joined = is
  gives c change (Some slot) keeps joined = put c (change slot) (keeps slot joined)

  pub player_stays : (c : ℕ) (player : PlayerState) → IsState player → IsServerState (set_player_at server c player).server
  player_stays c player state =
      gives c (λ slot. with_player server.profile slot player) (slot_at server c) (λ slot. joined_player below server.profile server.map.id player slot is.codec state) (here c)

  pub area_stays : (c : ℕ) (area : List ℕ) → IsArea area → IsServerState (set_area_at server c area).server
  area_stays c area few = gives c (λ slot. with_area slot area) (slot_at server c) (λ slot. joined_area server.profile server.map.id area slot few) (here c)

  pub delayed_stays : (c : ℕ) (on : Bool) → IsServerState (set_delayed_at server c on).server
  delayed_stays c on = gives c (λ slot. with_delayed slot on) (slot_at server c) (joined_delayed server.profile server.map.id on) (here c)

  pub says_stay : (c : ℕ) (text : List ℕ) → IsServerState (say_at server c text).server
  says_stay c text = of_found (slot_at server c) (here c)
    where
      of_found : (found : Option SlotState) → IfSome found (IsJoined server.profile server.map.id) → IsServerState (say_to server c text found).server
      of_found None joined = is
      of_found (Some slot) joined = put c (say_slot slot text).slot (joined_issued server.profile server.map.id text slot joined)

  pub emits_stay : (c : ℕ) → IsServerState (emit_at server c).server
  unfolding emit_at
  emits_stay c = of_found (slot_at server c) (here c)
    where
      of_found : (found : Option SlotState) → IfSome found (IsJoined server.profile server.map.id) → IsServerState (emit_from server c found).server
      of_found None joined = is
      of_found (Some slot) joined = server_goes_on below server.profile server.map server.slots server.frames c slot joined is

  pub takes_stay : (from : Address) (datagram : List ℕ) → IsServerState (take_at server from datagram).server
  unfolding take_at
  takes_stay from datagram = of_qport (qport_of (is_checked server.profile.protocol) datagram)
    where
      of_found : (c : ℕ) (found : Option SlotState) → IfSome found (IsJoined server.profile server.map.id) → IsServerState (take_by server c from datagram found).server
      of_found c None joined = is
      of_found c (Some slot) joined =
          put c (take_slot server.profile server.map c from datagram slot).slot (joined_took below server.profile server.map c from datagram slot joined)

      of_place : (place : Option ℕ) → IsServerState (take_from server from datagram place).server
      of_place None = is
      of_place (Some c) = of_found c (slot_at server c) (here c)

      of_qport : (qport : Result ℕ NoQport) → IsServerState (take_headed server from datagram qport).server
      of_qport (Ok qport) = of_place (sender_of server from.host qport)
      of_qport (Err no.Runt) = is
      of_qport (Err no.Connectionless) = is

  -- ---- the map

  pub time_stays : (time : ℕ) → time < 2 ^ 32 → IsServerState (set_time_at server time)
  time_stays time short = server_timed server.profile server.map (of_map.set_time_at server.map time) server.slots server.frames time short refl is

  pub entity_stays : (state : EntityState) → state.number < end_mark server.profile.entity → AreWords 64 state.words → IsServerState (set_entity_at server state)
  entity_stays state number words =
      server_entered server.profile server.map (of_map.set_entity_at server.profile.entity server.map state) server.slots server.frames below state number words refl is

  pub remove_stays : (number : ℕ) → IsServerState (remove_entity_at server number)
  remove_stays number = server_removed server.profile server.map (of_map.remove_entity_at server.map number) server.slots server.frames below number refl is

  pub baseline_stays : (state : EntityState) → state.number < end_mark server.profile.entity → AreWords 64 state.words → IsServerState (set_baseline_at server state).server
  baseline_stays state number words =
      let handed = of_map.set_baseline_at server.profile.entity server.map state in
      server_baselined server.profile server.map handed.map server.slots server.frames below state handed.answer number words refl is

  pub map_stays : (id feed : ℕ) → id < 2 ^ 31 → feed < 2 ^ 32 → IsServerState (new_map_at server id feed).server
  map_stays id feed least short =
      let next = after_new_map server.map id feed in
      cond_both (nat_le id server.map.id) (record { map = server.map; answer = Err (record { last = server.map.id }) }) (record { map = next; answer = Ok tt })
      (λ (handed : of_map.Handed NotLater). IsServer server.profile handed.map (on_map server.slots handed.answer) server.frames) (λ early. is)
      (λ later. server_on_map below server.profile server.map next server.slots (map_list (option_map on_new_map) server.slots) server.frames
      (map_new below server.profile server.map id feed least short is.is_map) refl is)

  pub config_stays : (index : ℕ) (text : List ℕ) → IsServerState (set_config_at server index text).server
  config_stays index text =
      elim (cases_Bool (index == own_string)) [
        | inl own ↦ rw own is
        | inr other ↦ rw other (of_fault (eqb-false index own_string other) (admit_fault server.map.strings index text) refl)
      ]
    where
      of_place : (index ≡ 1 → ⊥) → admit_fault server.map.strings index text ≡ None → (place : Option ℕ) → IsServerState (change_unless server index text place).server
      of_place other admitted (Some c) = is
      of_place other admitted None =
          server_configured server.profile server.map (with_config server.map index text) server.slots server.frames below index text
          (map_list (option_map (tells (piece_texts index text))) server.slots) other admitted refl refl is

      of_fault : (index ≡ 1 → ⊥) → (fault : Option ConfigError) → admit_fault server.map.strings index text ≡ fault → IsServerState (change_or server index text fault).server
      of_fault other (Some fault) found = is
      of_fault other None found =
          let change = position (lacks_room (piece_texts index text)) server.slots in
          cond_both (has_string server.map.strings index text) (record { server = server; answer = Ok tt }) (change_unless server index text change)
          (λ (handed : Handed ConfigRefused). Stays handed) (λ same. is) (λ other_text. of_place other found change)
