-- What follows for a client stays so with all that the game hands in.
use Rattle.std.proofs.Common.{Bool, List, None, Ok, Option, Some, [], ap, arith, false, get_or, inl, inr, length, refl, set, subst, sym, true, ℕ, ◌++◌, ◌<◌, ◌∙◌, ◌∷◌, ◌≡◌, ◌≤◌}
use Rattle.std.specs.Prelude.{Err, Result, if◌then◌else◌, nat_le, option_map, position, slice_set, ◌==◌}
use Rattle.std.proofs.lemmas.Bool.{cases_eq, cond_both, leb-false}
use Rattle.std.proofs.lemmas.List.{get_or-set_other}
use Rattle.std.proofs.lemmas.List.FromFn.{get_or-map-range_with_len}
use Rattle.q3_client.specs.Client.{new_client}
use Rattle.q3_clstate.specs.State.{AppliedState}
use Rattle.q3_config.specs.Changes.{after_commands}
use Rattle.q3_config.specs.Commands.{change_in, piece_count}
use Rattle.q3_config.specs.Laws.{piece_texts}
use Rattle.q3_config.specs.Strings.{Pending, Strings, admit_fault, with_string, has_string}
use Rattle.q3_config.specs.declared.error.ConfigError.{ConfigError}
use Rattle.q3_entity.specs.Baselines.{with_baseline}
use Rattle.q3_entity.specs.Entities.{normal_entity}
use Rattle.q3_entity.specs.declared.state.EntityState.{EntityState}
use Rattle.q3_gamestate.specs.Values.{Gamestate}
use Rattle.q3_io.specs.declared.address.Address.{Address}
use Rattle.q3_map.specs.Map as of_map
use Rattle.q3_map.specs.Map.{MapState, after_new_map, with_config}
use Rattle.q3_map.specs.declared.map.Late.{Late}
use Rattle.q3_map.specs.declared.map.NotLater.{NotLater}
use Rattle.q3_profile.specs.declared.profile.Profile.{Profile}
use Rattle.q3_server.specs.Server.{Handed, Saying, ServerState, add_apart, add_client_at, add_to, change_or, change_unless, give, new_map_at, own_string, places, say_at, say_to, set_baseline_at, set_config_at, slot_at}
use Rattle.q3_server.specs.declared.server.ConfigRefused.{ConfigRefused}
use Rattle.q3_server.specs.declared.server.ConfigRefused.TheVariants.{Own}
use Rattle.q3_server.specs.declared.server.SlotError.{SlotError}
use Rattle.q3_server.specs.declared.server.SlotError.TheVariants.{Range}
use Rattle.q3_built.specs.Built.{Built}
use Rattle.q3_slot.specs.Slot.{SlotState, game_of, is_connected, is_of, new_slot}
use Rattle.q3_slot.specs.Slots.{lacks_room, say_slot}
use Rattle.q3_slot.specs.declared.answer.SayError.{SayError}
use Rattle.q3_slot.specs.declared.stage.ClientStage.{ClientStage}
use Rattle.q3_slot.specs.declared.stage.ClientStage.TheVariants.{Active, Connected, Primed}
use Rattle.q3_report.specs.Answers.{Answered, Given}
use Rattle.q3_world.specs.declared.places.Place.{Place}
use Rattle.q3_ends.specs.Recording.{begin_at, new_recording, stop_at}
use Rattle.q3_script.specs.declared.event.Event.TheVariants as events
use Rattle.q3_world.specs.Ends.{EndsStep, client_step_of, joined, place_at, set_port_of}
use Rattle.q3_world.specs.Games.{Carries, HasLast, Tells}
use Rattle.q3_world.specs.Layers.{ConfigLaws}
use Rattle.q3_world.specs.StandsFor.{IsClient}
use Rattle.q3_world.specs.World.{History, Whole, history_at, no_history, texts_told, with_history, with_joined, with_noted, with_spoken, with_texts_told, with_told}
use Rattle.q3_report.specs.declared.answer.HandedIn.{HandedIn}
use Rattle.q3_report.specs.declared.answer.HandedIn.TheVariants as answers
use Rattle.q3_ends.specs.AtServer.{ServerStep, in_range}
use Rattle.q3_world.proofs.Ranged.{in_range_or}
use Rattle.q3_world.proofs.Clients.{no_client}
use Rattle.q3_world.proofs.Holding.{Holds, has_slot}
use Rattle.q3_schedules.proofs.StringsSince.{Follows, follows_anew, follows_issued, follows_joined, no_commands, nothing_changes}
use Rattle.q3_schedules.proofs.PiecesEnd.{none_leave, pieces_leave}
use Rattle.q3_world.proofs.GamesParts.{cases_option}
use Rattle.q3_world.proofs.Growth.{noted_same}
use Rattle.q3_world.proofs.OnePlace.{set_there}

-- ---- of a client in the world

-- what messages left at its end, if it has one
abbrev pub state_in : Option Place → Option AppliedState
state_in found = option_map (λ (p : Place). p.client.state) found

-- what follows for it on a map, since what was noted of it once
abbrev pub Of : History → MapState → Option Place → History → Type 0
Of old map place history = Follows map.id map.strings old.built old.server_commands (state_in place) history.built history.games history.server_commands

abbrev pub At : History → ℕ → Whole → Type 0
At old c whole = Of old whole.ends.server.map (place_at whole.ends c) (history_at whole.histories c)

-- what is noted at a place changes
pub history_changed : (P : History → Type 0) (histories : List History) (c k : ℕ) (next : History) → length histories ≡ places → c < places
    → (P (history_at histories k) → P next) → P (history_at histories c) → P (history_at (with_history histories k next) c)
history_changed P histories c k next count lt own is =
    elim (cases_eq c k) [
      | inl same ↦
          subst (λ (j : ℕ). P (history_at (with_history histories k next) j)) (sym same)
          (rw (set_there histories k no_history next count (omega (arith, same, lt))) (own (subst (λ (j : ℕ). P (history_at histories j)) same is)))
      | inr other ↦ rw (get_or-set_other histories k c next no_history other) is
    ]

-- what stands at a place of another list changes
pub one_changed : {X : Type 0} (P : Option X → Type 0) (xs : List (Option X)) (c k : ℕ) (x : Option X) → length xs ≡ places → c < places
    → (P (get_or xs k None) → P x) → P (get_or xs c None) → P (get_or (slice_set xs k x) c None)
one_changed P xs c k x many lt own is =
    elim (cases_eq c k) [
      | inl same ↦
          subst (λ (j : ℕ). P (get_or (set xs k x) j None)) (sym same)
          (rw (set_there xs k None x many (omega (arith, same, lt))) (own (subst (λ (j : ℕ). P (get_or xs j None)) same is)))
      | inr other ↦ rw (get_or-set_other xs k c x None other) is
    ]

-- or both do
pub both_changed : {X : Type 0} (P : Option X → History → Type 0) (xs : List (Option X)) (histories : List History) (c k : ℕ) (x : Option X) (next : History)
    → length xs ≡ places → length histories ≡ places → c < places → (P (get_or xs k None) (history_at histories k) → P x next)
    → P (get_or xs c None) (history_at histories c) → P (get_or (slice_set xs k x) c None) (history_at (with_history histories k next) c)
both_changed P xs histories c k x next many count lt own is =
    elim (cases_eq c k) [
      | inl same ↦
          subst (λ (j : ℕ). P (get_or (set xs k x) j None) (history_at (with_history histories k next) j)) (sym same)
          (rw (set_there xs k None x many (omega (arith, same, lt)), set_there histories k no_history next count (omega (arith, same, lt)))
          (own (subst (λ (j : ℕ). P (get_or xs j None) (history_at histories j)) same is)))
      | inr other ↦ rw (get_or-set_other xs k c x None other, get_or-set_other histories k c next no_history other) is
    ]

-- a map with the same id and strings
pub same_map : (old : History) (map after : MapState) (place : Option Place) (history : History) → after.id ≡ map.id → after.strings ≡ map.strings
    → Of old map place history → Of old after place history
same_map old map after place history id strings is =
    subst (λ (i : ℕ). Follows i after.strings old.built old.server_commands (state_in place) history.built history.games history.server_commands) (sym id)
    (subst (λ (s : Strings). Follows map.id s old.built old.server_commands (state_in place) history.built history.games history.server_commands) (sym strings) is)

-- a client in the same state
pub same_state : (old : History) (map : MapState) (place after : Place) (history : History) → after.client.state ≡ place.client.state → Of old map (Some place) history → Of old map (Some after) history
same_state old map place after history same is =
    subst (λ (s : AppliedState). Follows map.id map.strings old.built old.server_commands (Some s) history.built history.games history.server_commands) (sym same) is

-- ---- what was built

-- of a client that isn't there nothing was
nobody_built : (profile : Profile) (whole : Whole) (c : ℕ) → c < places → Holds profile whole → slot_at whole.ends.server c ≡ None → history_at whole.histories c ≡ no_history
nobody_built profile whole c lt holds none =
    no_client profile (place_at whole.ends c) (history_at whole.histories c)
    (subst (λ (s : Option SlotState). IsClient profile s (place_at whole.ends c) (history_at whole.histories c)) none (holds.facts.each c lt))

-- and nothing carries a gamestate then
nothing_carries : (history : History) (n : ℕ) (game : Gamestate) → history ≡ no_history → Carries history.built n game → ⊥
nothing_carries history n game none is =
    let count : length history.built ≡ 0 = ap (λ (h : History). length h.built) none in
    let some = is.some in
    let begun = is.begun in
    omega (arith, some, begun, count)

-- ids of maps rise
below_new : (profile : Profile) (whole : Whole) (c : ℕ) → c < places → Holds profile whole → (n id : ℕ) (game : Gamestate) → Carries (history_at whole.histories c).built n game → Tells game id
    → id ≤ whole.ends.server.map.id
below_new profile whole c lt holds n id game is tells =
    elim (cases_option (slot_at whole.ends.server c)) [
      | inl none ↦ absurd (nothing_carries (history_at whole.histories c) n game (nobody_built profile whole c lt holds none) is)
      | inr found ↦ ((has_slot profile whole c found.0 lt found.1 holds).1.joined.mapped.of_maps.ids n id game is tells).1
    ]

connected_is : (stage : ClientStage) → is_connected stage ≡ true → game_of stage ≡ None
connected_is Connected e = refl
connected_is (Primed game) e = absurd cc
connected_is (Active game) e = absurd cc

-- for one that is connected no gamestate of the map was built
connected_none : (map : MapState) (built : List Built) (game : Option ℕ) → game ≡ None → HasLast map built game → HasLast map built None
connected_none map built game none last = subst (HasLast map built) none last

-- where a client isn't told of changes, no gamestate of the map was built for it
untold : (profile : Profile) (whole : Whole) (c : ℕ) (slot : SlotState) → c < places → Holds profile whole → slot_at whole.ends.server c ≡ Some slot → is_connected slot.stage ≡ true
    → (n : ℕ) (game : Gamestate) → Carries (history_at whole.histories c).built n game → Tells game whole.ends.server.map.id → ⊥
untold profile whole c slot lt holds found connected =
    let stands = (has_slot profile whole c slot lt found holds).1.joined.mapped.stands in
    connected_none whole.ends.server.map (history_at whole.histories c).built (game_of slot.stage) (connected_is slot.stage connected) stands.last

-- ---- what the game hands in

-- a change of one slot leaves the map
given_map : (server : ServerState) (k : ℕ) (change : SlotState → SlotState) (found : Option SlotState) → (give server k change found).server.map ≡ server.map
given_map server k change None = refl
given_map server k change (Some slot) = refl

-- the world in which something was handed in and this is noted of a client, by the answer
abbrev pub noting : Whole → ℕ → EndsStep → (Answered → History) → Whole
noting whole k step note = (with_noted whole (with_history whole.histories k (note step.answer)) step).whole

-- a client that asks to join
abbrev pub joining : Profile → Whole → ℕ → ℕ → ℕ → ℕ → Address → Handed SlotError → Whole
joining profile whole k challenge qport dup address added =
    noting whole k (joined (record whole.ends { server = added.server }) k (record { client = new_client profile challenge qport dup; address = address; recording = None }) added.answer)
    (with_joined (history_at whole.histories k) challenge qport address)

abbrev JoinsSo : Profile → History → ℕ → Whole → ℕ → ℕ → ℕ → ℕ → Address → Handed SlotError → Type 0
JoinsSo profile old c whole k challenge qport dup address added = At old c (joining profile whole k challenge qport dup address added)

-- a config string that is handed in
abbrev ConfigSo : History → ℕ → Whole → ℕ → List ℕ → Handed ConfigRefused → Type 0
ConfigSo old c whole index text change =
    Of old change.server.map (place_at whole.ends c) (history_at (with_told whole.ends.server index text (Given (answers.Config index change.answer)) whole.histories) c)

-- a command of the server
abbrev SpeaksSo : History → ℕ → Whole → ℕ → List ℕ → Saying → Type 0
SpeaksSo old c whole k text said =
    Of old said.server.map (place_at whole.ends c) (history_at (with_history whole.histories k (with_spoken (history_at whole.histories k) text (Given (answers.Say k said.answer)))) c)

module _ (profile : Profile) (whole : Whole) (old : History) (c : ℕ) (lt : c < places) (holds : Holds profile whole) (is : At old c whole) where
  -- nothing new is noted of a client
  pub unnoted : (k : ℕ) → Of old whole.ends.server.map (place_at whole.ends c) (history_at (with_history whole.histories k (history_at whole.histories k)) c)
  unnoted k = subst (λ (h : List History). Of old whole.ends.server.map (place_at whole.ends c) (history_at h c)) (sym (noted_same whole.histories k)) is

  -- a change of one slot
  pub gives : (k : ℕ) (change : SlotState → SlotState) (found : Option SlotState)
      → Of old (give whole.ends.server k change found).server.map (place_at whole.ends c) (history_at whole.histories c)
  gives k change found = subst (λ (map : MapState). Of old map (place_at whole.ends c) (history_at whole.histories c)) (sym (given_map whole.ends.server k change found)) is

  joins_apart : (k challenge qport dup : ℕ) (address : Address) → k < places → slot_at whole.ends.server k ≡ None → (twin : Option ℕ)
      → JoinsSo profile old c whole k challenge qport dup address (add_apart whole.ends.server k (new_slot whole.ends.server.profile.protocol challenge qport address) twin)
  joins_apart k challenge qport dup address within none (Some twin) = unnoted k
  joins_apart k challenge qport dup address within none None =
      let map = whole.ends.server.map in
      let history = history_at whole.histories k in
      let place : Place = record { client = new_client profile challenge qport dup; address = address; recording = None } in
      both_changed (λ (e : Option Place) (h : History). Of old map e h) whole.ends.clients whole.histories c k (Some place) (record history { challenge = challenge; qport = qport; host = address.host })
      holds.facts.clients holds.facts.histories lt
      (λ was. follows_joined map.id map.strings old.built old.server_commands (state_in (place_at whole.ends k)) history.built history.games history.server_commands profile
      (ap (λ (h : History). h.games) (nobody_built profile whole k within holds none)) was) is

  joins_to : (k challenge qport dup : ℕ) (address : Address) → k < places → (found : Option SlotState) → slot_at whole.ends.server k ≡ found
      → JoinsSo profile old c whole k challenge qport dup address (add_to whole.ends.server k (new_slot whole.ends.server.profile.protocol challenge qport address) found)
  joins_to k challenge qport dup address within None none = joins_apart k challenge qport dup address within none (position (is_of address.host qport) whole.ends.server.slots)
  joins_to k challenge qport dup address within (Some slot) at = unnoted k

  -- a client asks to join
  pub joins : (k challenge qport dup : ℕ) (address : Address) → k < places
      → At old c (joining profile whole k challenge qport dup address (add_client_at whole.ends.server k challenge qport address))
  joins k challenge qport dup address within =
      cond_both (nat_le (length whole.ends.server.slots) k) (record { server = whole.ends.server; answer = Err Range })
      (add_to whole.ends.server k (new_slot whole.ends.server.profile.protocol challenge qport address) (slot_at whole.ends.server k))
      (JoinsSo profile old c whole k challenge qport dup address) (λ e. unnoted k)
      (λ e. joins_to k challenge qport dup address within (slot_at whole.ends.server k) refl)

  -- its datagrams come from another port
  pub ports : (k port : ℕ) (found : Option Place) → place_at whole.ends k ≡ found → At old c (record whole { ends = (set_port_of whole.ends k port found).ends })
  ports k port None at = is
  ports k port (Some place) at =
      let map = whole.ends.server.map in
      let history = history_at whole.histories c in
      let after : Place = record place { address = record place.address { port = port } } in
      one_changed (λ (e : Option Place). Of old map e history) whole.ends.clients c k (Some after) holds.facts.clients lt
      (λ was. same_state old map place after history refl (subst (λ (e : Option Place). Of old map e history) at was)) is

  -- a client begins a recording
  pub records : (k : ℕ) (name : List ℕ) (found : Option Place) → place_at whole.ends k ≡ found → At old c (record whole { ends = (client_step_of whole.ends k (events.RecordTo k name) found).ends })
  records k name None at = is
  records k name (Some place) at =
      let map = whole.ends.server.map in
      let history = history_at whole.histories c in
      let after : Place = record place { recording = (begin_at place.client place.recording (new_recording name)).recording } in
      one_changed (λ (e : Option Place). Of old map e history) whole.ends.clients c k (Some after) holds.facts.clients lt
      (λ was. same_state old map place after history refl (subst (λ (e : Option Place). Of old map e history) at was)) is

  -- or its recording has its end
  pub stops : (k : ℕ) (found : Option Place) → place_at whole.ends k ≡ found → At old c (record whole { ends = (client_step_of whole.ends k (events.Stop k) found).ends })
  stops k None at = is
  stops k (Some place) at =
      let map = whole.ends.server.map in
      let history = history_at whole.histories c in
      let after : Place = record place { recording = (stop_at place.recording).recording } in
      one_changed (λ (e : Option Place). Of old map e history) whole.ends.clients c k (Some after) holds.facts.clients lt
      (λ was. same_state old map place after history refl (subst (λ (e : Option Place). Of old map e history) at was)) is

  -- a new map
  pub maps : (id feed : ℕ) → Of old (new_map_at whole.ends.server id feed).server.map (place_at whole.ends c) (history_at whole.histories c)
  maps id feed =
      let map = whole.ends.server.map in
      let history = history_at whole.histories c in
      cond_both (nat_le id map.id) (record { map = map; answer = Err (record { last = map.id }) }) (record { map = after_new_map map id feed; answer = Ok tt })
      (λ (handed : of_map.Handed NotLater). Of old handed.map (place_at whole.ends c) history) (λ e. is)
      (λ e. follows_anew map.id map.strings old.built old.server_commands (state_in (place_at whole.ends c)) history.built history.games history.server_commands id
      (after_new_map map id feed).strings
      (λ n game carries tells. let most = below_new profile whole c lt holds n id game carries tells in let above = leb-false id map.id e in omega (arith, most, above)) is)

  -- a baseline
  pub baselines : (state : EntityState) → Of old (set_baseline_at whole.ends.server state).server.map (place_at whole.ends c) (history_at whole.histories c)
  baselines state =
      let map = whole.ends.server.map in
      cond_both map.begun (record { map = map; answer = Err (record {}) })
      (record { map = record map { baselines = with_baseline map.baselines (normal_entity whole.ends.server.profile.entity state) }; answer = Ok tt })
      (λ (handed : of_map.Handed Late). Of old handed.map (place_at whole.ends c) (history_at whole.histories c)) (λ e. is) (λ e. is)

  -- a line about an entity
  pub in_range_follows : (number : ℕ) (refusal : HandedIn) (step : ServerStep) → Of old step.server.map (place_at whole.ends c) (history_at whole.histories c)
      → Of old (in_range whole.ends.server number refusal step).server.map (place_at whole.ends c) (history_at whole.histories c)
  in_range_follows number refusal step within =
      in_range_or (λ (done : ServerStep). Of old done.server.map (place_at whole.ends c) (history_at whole.histories c)) whole.ends.server number refusal step (λ below. within) is

  -- a config change: its client is told, unless no gamestate of the map was begun for it
  told_follows : ConfigLaws → (index : ℕ) (text : List ℕ) → admit_fault whole.ends.server.map.strings index text ≡ None → (found : Option SlotState) → slot_at whole.ends.server c ≡ found
      → Of old (with_config whole.ends.server.map index text) (place_at whole.ends c)
      (record (history_at whole.histories c) { server_commands = (history_at whole.histories c).server_commands ++ texts_told (piece_texts index text) found })
  told_follows laws index text may found at = go found at
    where
      map : MapState
      map = whole.ends.server.map

      history : History
      history = history_at whole.histories c

      now : Strings
      now = with_string map.strings index text

      makes : after_commands map.strings (piece_texts index text) ≡ now
      makes =
          laws.make map.strings index text holds.facts.map.strings may
          ∙ ap (λ (o : Option Pending). record now { pending = o })
          (cond_both (piece_count (length text) == 1) map.strings.pending None (λ (o : Option Pending). o ≡ map.strings.pending) (λ e. refl) (λ e. sym holds.facts.map.pending))

      silent : ((n : ℕ) (game : Gamestate) → Carries history.built n game → Tells game map.id → ⊥)
          → Of old (with_config map index text) (place_at whole.ends c) (record history { server_commands = history.server_commands ++ [] })
      silent none =
          follows_issued map.id now old.built old.server_commands (state_in (place_at whole.ends c)) history.built history.games history.server_commands now [] (no_commands now) none_leave
          (follows_anew map.id map.strings old.built old.server_commands (state_in (place_at whole.ends c)) history.built history.games history.server_commands map.id now none is)

      go : (found : Option SlotState) → slot_at whole.ends.server c ≡ found
          → Of old (with_config map index text) (place_at whole.ends c) (record history { server_commands = history.server_commands ++ texts_told (piece_texts index text) found })
      go None at = silent (λ n game carries tells. nothing_carries history n game (nobody_built profile whole c lt holds at) carries)
      go (Some slot) at =
          cond_both (is_connected slot.stage) [] (piece_texts index text)
          (λ (texts : List (List ℕ)). Of old (with_config map index text) (place_at whole.ends c) (record history { server_commands = history.server_commands ++ texts }))
          (λ e. silent (untold profile whole c slot lt holds at e))
          (λ e. follows_issued map.id map.strings old.built old.server_commands (state_in (place_at whole.ends c)) history.built history.games history.server_commands now (piece_texts index text) makes (pieces_leave laws map.strings index text may) is)

  config_changes : ConfigLaws → (index : ℕ) (text : List ℕ) → admit_fault whole.ends.server.map.strings index text ≡ None → has_string whole.ends.server.map.strings index text ≡ false → (full : Option ℕ)
      → ConfigSo old c whole index text (change_unless whole.ends.server index text full)
  config_changes laws index text may apart (Some k) = is
  config_changes laws index text may apart None =
      let server = whole.ends.server in
      let texts = piece_texts index text in
      let histories = whole.histories in
      let after = with_config server.map index text in
      let there : history_at (with_texts_told server texts histories) c
      ≡ record (history_at histories c) { server_commands = (history_at histories c).server_commands ++ texts_told texts (slot_at server c) } =
      get_or-map-range_with_len (λ (j : ℕ). record (history_at histories j) { server_commands = (history_at histories j).server_commands ++ texts_told texts (slot_at server j) }) 0 places c c no_history lt (omega arith) in
      subst (λ (b : Bool). Of old after (place_at whole.ends c) (history_at (if b then histories else with_texts_told server texts histories) c)) (sym apart)
      (subst (λ (h : History). Of old after (place_at whole.ends c) h) (sym there) (told_follows laws index text may (slot_at server c) refl))

  config_or : ConfigLaws → (index : ℕ) (text : List ℕ) (fault : Option ConfigError) → admit_fault whole.ends.server.map.strings index text ≡ fault
      → ConfigSo old c whole index text (change_or whole.ends.server index text fault)
  config_or laws index text (Some fault) at = is
  config_or laws index text None may =
      let server = whole.ends.server in
      cond_both (has_string server.map.strings index text) (record { server = server; answer = Ok tt }) (change_unless server index text (position (lacks_room (piece_texts index text)) server.slots))
      (ConfigSo old c whole index text)
      (λ e. subst (λ (b : Bool). Of old server.map (place_at whole.ends c) (history_at (if b then whole.histories else with_texts_told server (piece_texts index text) whole.histories) c)) (sym e) is)
      (λ e. config_changes laws index text may e (position (lacks_room (piece_texts index text)) server.slots))

  pub configs : ConfigLaws → (index : ℕ) (text : List ℕ) → ConfigSo old c whole index text (set_config_at whole.ends.server index text)
  configs laws index text =
      let server = whole.ends.server in
      cond_both (index == own_string) (record { server = server; answer = Err Own }) (change_or server index text (admit_fault server.map.strings index text))
      (ConfigSo old c whole index text) (λ e. is) (λ e. config_or laws index text (admit_fault server.map.strings index text) refl)

  spoken : (k : ℕ) (text : List ℕ) (answer : Result ℕ SayError) → change_in text ≡ None → Of old whole.ends.server.map (place_at whole.ends c) (history_at whole.histories k)
      → Of old whole.ends.server.map (place_at whole.ends c) (with_spoken (history_at whole.histories k) text (Given (answers.Say k answer)))
  spoken k text (Ok number) none was =
      let map = whole.ends.server.map in
      let history = history_at whole.histories k in
      follows_issued map.id map.strings old.built old.server_commands (state_in (place_at whole.ends c)) history.built history.games history.server_commands map.strings (text ∷ [])
      (nothing_changes map.strings text none) (λ strings is. ap (λ (s : Strings). s.pending) (nothing_changes strings text none) ∙ is) was
  spoken k text (Err e) none was = was

  says_to : (k : ℕ) (text : List ℕ) (found : Option SlotState) → change_in text ≡ None
      → SpeaksSo old c whole k text (say_to whole.ends.server k text found)
  says_to k text None none = unnoted k
  says_to k text (Some slot) none =
      let answer = (say_slot slot text).answer in
      history_changed (λ (h : History). Of old whole.ends.server.map (place_at whole.ends c) h) whole.histories c k (with_spoken (history_at whole.histories k) text (Given (answers.Say k answer)))
      holds.facts.histories lt (spoken k text answer none) is

  -- a command of the server
  pub says : (k : ℕ) (text : List ℕ) → change_in text ≡ None → SpeaksSo old c whole k text (say_at whole.ends.server k text)
  says k text none = says_to k text (slot_at whole.ends.server k) none
