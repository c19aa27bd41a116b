-- What the game hands in keeps what holds.
use Rattle.std.proofs.Common.{◌≡◌, ℕ, ◌^◌, ◌<◌, ◌≤◌, true, false, Bool, cond, List, [], ◌++◌, length, get_or, Option, Some, None, Ok, Err, refl, sym, ap, subst, ◌∙◌, inl, inr, arith}
use Rattle.std.specs.Prelude.{◌==◌, if◌then◌else◌, not, nat_le, nat_lt, position, All}
use Rattle.std.specs.List.{position_or_len}
use Rattle.std.proofs.lemmas.Bool.{cases_Bool, cases_lt, cond_both, leb-false, lt-leb, ltb-false, not-false, eqb-false}
use Rattle.std.proofs.lemmas.List.{append-nil, get_or_past}
use Rattle.std.proofs.lemmas.List.FromFn.{get_or-map-range_with_len, length-map-range_with_len}
use Rattle.std.proofs.lemmas.List.Sums.{fails_before_first}
use Rattle.q3_profile.specs.declared.profile.Profile.{Profile}
use Rattle.q3_player.specs.State.{zero_player, normal_player}
use Rattle.q3_player.specs.declared.state.PlayerState.{PlayerState}
use Rattle.q3_io.specs.declared.address.Address.{Address}
use Rattle.q3_fields.specs.Kinds.{end_mark}
use Rattle.arrayvec.specs.ArrayVec.{ArrayVec}
use Rattle.q3_fields.specs.States.{AreWords}
use Rattle.q3_entity.specs.declared.state.EntityState.{EntityState}
use Rattle.q3_entity.specs.Entities.{normal_entity}
use Rattle.q3_entity.specs.Baselines.{with_baseline}
use Rattle.q3_text.specs.Texts.{IsText}
use Rattle.q3_config.specs.declared.error.ConfigError.{ConfigError}
use Rattle.q3_config.specs.Strings.{with_string, admit_fault, has_string}
use Rattle.q3_config.specs.Laws.{piece_texts, Admitted}
use Rattle.q3_window.specs.Outgoing.{IsOutgoing, fits as has_room, total_of, with_texts}
use Rattle.q3_clmsg.specs.declared.moves.Move.{Move}
use Rattle.q3_clmsg.specs.Moves.{IsHeldMove}
use Rattle.q3_client.specs.Client.{new_client, ClientState}
use Rattle.q3_client.specs.declared.client.MoveError.{MoveError}
use Rattle.q3_client.specs.declared.client.MoveError.TheVariants.{NoGame, NotLater, Range}
use Rattle.q3_client.specs.Moves.{Handed as HandedMove, is_issuable, issue}
use Rattle.q3_map.specs.declared.map.Late.{Late}
use Rattle.q3_map.specs.Map.{MapState, Handed as HandedMap, after_new_map, set_baseline_at, with_config, with_entity, without_entity}
use Rattle.q3_built.specs.Built.{Built, IsHeld, IsArea}
use Rattle.q3_slot.specs.declared.stage.ClientStage.TheVariants.{Connected}
use Rattle.q3_slot.specs.Slot.{new_slot, SlotState, is_connected, is_of, on_new_map, with_player}
use Rattle.q3_slot.specs.Slots.{changes_own, lacks_room, tells}
use Rattle.q3_server.specs.declared.server.ConfigRefused.{ConfigRefused}
use Rattle.q3_server.specs.declared.server.ConfigRefused.TheVariants.{Own}
use Rattle.q3_server.specs.Server.{ServerState, Handed, places, own_string, slot_at, with_slot, change_config, change_unless, change_or}
use Rattle.q3_report.specs.declared.answer.HandedIn.{HandedIn}
use Rattle.q3_report.specs.declared.answer.HandedIn.TheVariants as answers
use Rattle.q3_report.specs.declared.answer.BaselineRefused.TheVariants as unset
use Rattle.q3_report.specs.Answers.{Answered, Given}
use Rattle.q3_ends.specs.AtServer as at_server
use Rattle.q3_ends.specs.AtServer.{ServerStep}
use Rattle.q3_ends.specs.AtClient as at_client
use Rattle.q3_world.specs.declared.places.Place.{Place}
use Rattle.q3_world.specs.Layers.{WindowLaws}
use Rattle.q3_script.specs.declared.event.Event.TheVariants as events
use Rattle.q3_world.specs.Ends.{EndsStep, place_at, with_client, given, join, to_server, client_step}
use Rattle.q3_world.specs.Games.{standing_of}
use Rattle.q3_world.specs.Kept.{kept_ends}
use Rattle.q3_server.specs.Standing.{IsMap}
use Rattle.q3_world.specs.StandsFor.{KeepsSlot, AreEnds, AreJoined}
use Rattle.q3_world.specs.World.{Whole, History, no_history, history_at, with_history, with_joined, with_spoken, texts_told, with_texts_told, with_told, with_typed, with_issued, with_noted}
use Rattle.q3_world.proofs.MoveLists.{is_move}
use Rattle.q3_world.proofs.Ranged.{in_range_or}
use Rattle.q3_world.proofs.Growth.{Grow, HistoryGrows, HistoryGrows-same, HistoryGrows-beside}
use Rattle.q3_world.proofs.Clients.{no_area, KeepsSlot-given, KeepsSlot-stands, KeepsSlot-told}
use Rattle.q3_world.proofs.Joined.{TakesSaid-same}
use Rattle.q3_world.proofs.Holding.{with_new, Holds, has_client, Holds-new, same_server}
use Rattle.q3_world.proofs.Given.{with_new_slot, Holds-player, Holds-area, with_map, Holds-map, joined_stays, Holds-issued}
use Rattle.q3_world.proofs.EverySlot.{LeavesClient, Holds-every}
use Rattle.q3_world.proofs.Maps.{pieces_own}
use Rattle.q3_world.proofs.GamesBuilt.{AreMapped-new}
use Rattle.q3_world.proofs.GamesMaps.{AreMapped-map, AreMapped-given, AreMapped-configured, AreMapped-baselined}
use Rattle.q3_world.proofs.Mapped.{mapped_issued}
use Rattle.q3_world.proofs.Issuing.{joined_told, Holds-spoken, Holds-typed}
use Rattle.q3_world.proofs.StepsByTags.{Cited, kept_of, Agree, found_or, unnoted, left_alone}

-- ---- what the game hands in, or reads

-- both worlds do it by one definition
pub handed : (profile : Profile) (whole : Whole) (step : EndsStep) → Holds profile (record whole { ends = step.ends })
    → Agree profile (kept_ends (kept_of profile whole) step) (with_noted whole whole.histories step)
handed profile whole step holds = record { same = refl; holds = holds }

-- the world after what is handed in to one client, of which something is noted
abbrev pub noting : Whole → ℕ → EndsStep → (Answered → History) → Whole
noting whole c step note = (with_noted whole (with_history whole.histories c (note step.answer)) step).whole

pub holds_join : (profile : Profile) (whole : Whole) (c challenge qport dup : ℕ) (address : Address) → Cited profile → c < places → qport < 2 ^ 16 → Holds profile whole
    → Holds profile (noting whole c (join profile whole.ends c challenge qport dup address) (with_joined (history_at whole.histories c) challenge qport address))
holds_join profile whole c challenge qport dup address cited lt fits holds =
    let slots = whole.ends.server.slots in
    let within : nat_le (length slots) c ≡ false = lt-leb (length slots) c (omega (arith, lt, holds.facts.slots)) in
    rw within (elim (found_or (slot_at whole.ends.server c)) [
      | inl none ↦ rw none (elim (found_or (position (is_of address.host qport) slots)) [
        | inl alone ↦
            rw alone (subst (λ (p : Profile). Holds profile (with_new whole c challenge qport address (new_slot p.protocol challenge qport address) (new_client profile challenge qport dup))) (sym holds.facts.by)
            (Holds-new cited.below.rings cited.below.windows profile whole c challenge qport dup address cited.ring cited.below.sends cited.below.gathers cited.first cited.zero lt fits none alone
            (AreMapped-new profile challenge qport address whole.ends.server.map) holds))
        | inr twin ↦ rw twin.1 (unnoted profile whole c holds)
      ])
      | inr found ↦ rw found.1 (unnoted profile whole c holds)
    ])

pub holds_player : (profile : Profile) (whole : Whole) (c : ℕ) (player : PlayerState) → IsHeld profile (normal_player profile.player.kinds player) → c < places → Holds profile whole
    → Holds profile (record whole { ends = (to_server whole.ends (at_server.set_player whole.ends.server c player)).ends })
holds_player profile whole c player held lt holds =
    elim (found_or (slot_at whole.ends.server c)) [
      | inl none ↦ rw none holds
      | inr found ↦ rw found.1
          (subst (λ (p : Profile). Holds profile (with_new_slot whole c (with_player p found.0 player))) (sym holds.facts.by)
          (Holds-player profile whole c found.0 player lt found.1 held holds))
    ]

pub holds_area : (profile : Profile) (whole : Whole) (c : ℕ) (area : ArrayVec ℕ) → IsArea area.items → c < places → Holds profile whole
    → Holds profile (record whole { ends = (to_server whole.ends (at_server.set_area whole.ends.server c area)).ends })
holds_area profile whole c area is lt holds =
    elim (found_or (slot_at whole.ends.server c)) [
      | inl none ↦ rw none holds
      | inr found ↦ rw found.1 (Holds-area profile whole c found.0 area.items lt found.1 is holds)
    ]

-- the time and the entities change
pub holds_given : (profile : Profile) (whole : Whole) (time : ℕ) (entities : List EntityState) → IsMap profile (record whole.ends.server.map { time = time; entities = entities }) → Holds profile whole
    → Holds profile (with_map whole (record whole.ends.server.map { time = time; entities = entities }))
holds_given profile whole time entities is holds =
    let map = whole.ends.server.map in
    let next = record map { time = time; entities = entities } in
    Holds-map profile whole next is (joined_stays profile map next (AreMapped-given map time entities)) holds

pub holds_time : (profile : Profile) (whole : Whole) (time : ℕ) → Cited profile → time < 2 ^ 32 → Holds profile whole → Holds profile (record whole { ends = (to_server whole.ends (at_server.set_time whole.ends.server time)).ends })
holds_time profile whole time cited short holds =
    let map = whole.ends.server.map in
    holds_given profile whole time map.entities (cited.below.maps.timed profile map time short holds.facts.map) holds

-- a line about an entity, whose number is below the end mark where it does something
in_range_holds : (profile : Profile) (whole : Whole) (number : ℕ) (refusal : HandedIn) (step : ServerStep) → Holds profile whole
    → (number < end_mark profile.entity → Holds profile (record whole { ends = (to_server whole.ends step).ends }))
    → Holds profile (record whole { ends = (to_server whole.ends (at_server.in_range whole.ends.server number refusal step)).ends })
in_range_holds profile whole number refusal step holds within =
    in_range_or (λ (done : ServerStep). Holds profile (record whole { ends = (to_server whole.ends done).ends })) whole.ends.server number refusal step
    (λ lt. within (subst (λ (p : Profile). number < end_mark p.entity) holds.facts.by lt)) holds

pub holds_entity : (profile : Profile) (whole : Whole) (state : EntityState) → Cited profile → AreWords 64 state.words → Holds profile whole
    → Holds profile (record whole { ends = (to_server whole.ends (at_server.entity_line whole.ends.server state)).ends })
holds_entity profile whole state cited words holds =
    let facts = holds.facts in
    let server = whole.ends.server in
    let entity = normal_entity profile.entity state in
    in_range_holds profile whole state.number (answers.Entity state.number (Err (record {}))) (at_server.set_entity server state) holds (λ lt.
    subst (λ (p : Profile). Holds profile (with_map whole (record server.map { entities = with_entity (normal_entity p.entity state) server.map.entities }))) (sym facts.by)
    (holds_given profile whole server.map.time (with_entity entity server.map.entities) (cited.below.maps.entered profile server.map state cited.codec lt words facts.map) holds))

pub holds_removed : (profile : Profile) (whole : Whole) (number : ℕ) → Cited profile → Holds profile whole
    → Holds profile (record whole { ends = (to_server whole.ends (at_server.remove_line whole.ends.server number)).ends })
holds_removed profile whole number cited holds =
    let server = whole.ends.server in
    in_range_holds profile whole number (answers.Remove number (Err (record {}))) (at_server.remove_entity server number) holds (λ lt.
    holds_given profile whole server.map.time (without_entity number server.map.entities) (cited.below.maps.removed profile server.map number holds.facts.map) holds)

-- ---- maps

-- a slot on a new map
slot_on_map : (profile : Profile) (slot : SlotState) (qport host : ℕ) (built : List Built) (run : List Move) (commands : List (List ℕ)) → IsHeld profile zero_player
    → KeepsSlot profile slot qport host built run commands → KeepsSlot profile (on_new_map slot) qport host built run commands
slot_on_map profile slot qport host built run commands first keeps =
    KeepsSlot-given profile (record slot { stage = Connected; owed = false; delta = 0 }) qport host built run commands zero_player (record { items = [] }) first no_area
    (KeepsSlot-stands profile slot qport host built run commands Connected false 0 keeps)

-- what joins its ends
joined_on_map : (profile : Profile) (map : MapState) (slot : SlotState) (client : ClientState) (history : History) (id feed : ℕ) → map.id < id → AreJoined profile map slot client history
    → AreJoined profile (after_new_map map id feed) (on_new_map slot) client history
joined_on_map profile map slot client history id feed above joined =
    let next = on_new_map slot in
    record {
      of_client = joined.of_client;
      of_slot = TakesSaid-same profile slot next history.said history.issued history.run refl joined.of_slot;
      asked = record { asks = joined.asked.asks; delta = inl refl; bases = joined.asked.bases };
      commanded = record { to_client = joined.commanded.to_client; to_server = joined.commanded.to_server };
      mapped = AreMapped-map map (standing_of slot) client.state client.gathering.taken client.last_time history.built history.games history.said history.accepted history.client_executed id feed above
          joined.mapped;
      since = joined.since;
    }

-- a new map, whose id is above the last one's
pub holds_new_map : (profile : Profile) (whole : Whole) (id feed : ℕ) → Cited profile → id < 2 ^ 31 → feed < 2 ^ 32 → Holds profile whole
    → Holds profile (record whole { ends = (to_server whole.ends (at_server.new_map whole.ends.server id feed)).ends })
holds_new_map profile whole id feed cited least short holds =
    let map = whole.ends.server.map in
    elim (cases_Bool (nat_le id map.id)) [
      | inl early ↦ rw early holds
      | inr later ↦
          rw later (Holds-every profile whole (after_new_map map id feed) on_new_map whole.histories
          (record {
            leaves = record { host = λ slot. refl; qport = λ slot. refl };
            is = cited.below.maps.new_map profile map id feed least short holds.facts.map;
            count = holds.facts.histories;
            grows = λ c. HistoryGrows-same (history_at whole.histories c);
            built = λ c lt. refl;
            nobody = λ c lt none is. is;
            keeps = λ c slot place lt had.
                let history = history_at whole.histories c in
                let keeps = had.keeps in
                record {
                  of_slot = slot_on_map profile slot history.qport history.host history.built history.run history.server_commands cited.zero keeps.of_slot;
                  of_client = keeps.of_client;
                  challenge = keeps.challenge;
                  joined = keeps.joined;
                  host = keeps.host;
                };
            joins = λ c slot place lt had. joined_on_map profile map slot place.client (history_at whole.histories c) id feed (leb-false id map.id later) had.joined;
          }) holds)
    ]

-- a baseline, which is refused once a gamestate of the map was begun
pub holds_baseline : (profile : Profile) (whole : Whole) (state : EntityState) → Cited profile → AreWords 64 state.words → Holds profile whole
    → Holds profile (record whole { ends = (to_server whole.ends (at_server.baseline_line whole.ends.server state)).ends })
holds_baseline profile whole state cited words holds =
    let map = whole.ends.server.map in
    let entity = normal_entity profile.entity state in
    let next = record map { baselines = with_baseline map.baselines entity } in
    in_range_holds profile whole state.number (answers.Baseline state.number (Err unset.OutOfRange)) (at_server.set_baseline whole.ends.server state) holds (λ lt.
    subst (λ (p : Profile). Holds profile (with_map whole (set_baseline_at p.entity map state).map)) (sym holds.facts.by)
    (cond_both map.begun (record { map = map; answer = Err (record {}) }) (record { map = next; answer = Ok tt })
    (λ (handed : HandedMap Late). IsMap profile handed.map → Holds profile (with_map whole handed.map))
    (λ begun is. holds)
    (λ before is. Holds-map profile whole next is (joined_stays profile map next (AreMapped-baselined map (with_baseline map.baselines entity) before)) holds)
    (cited.below.maps.baselined profile map state cited.codec lt words holds.facts.map)))

-- ---- config strings

-- the commands of a change are issued to each client for which a gamestate was begun: there is room for all of them, they are texts, and
-- they leave string 1
record MayTell (server : ServerState) (texts : List (List ℕ)) : Type 0 where
  room : (c : ℕ) → c < places → lacks_room texts (slot_at server c) ≡ false
  are : All IsText texts
  own : All (λ text. changes_own text ≡ false) texts

-- where none passes a test, each fails
none_passes : {X : Type 0} (test : X → Bool) (xs : List X) → position test xs ≡ None → (k : ℕ) (d : X) → k < length xs → test (get_or xs k d) ≡ false
none_passes test xs none k d lt =
    let past : length xs ≤ position_or_len test xs = elim (cases_Bool (nat_lt (position_or_len test xs) (length xs))) [
      | inl found ↦ absurd (some_none (subst (λ (b : Bool). cond b (Some (position_or_len test xs)) None ≡ None) found none))
      | inr past ↦ ltb-false (position_or_len test xs) (length xs) past
    ] in
    fails_before_first test xs k d (omega (arith, lt, past))
  where
    some_none : {k : ℕ} → Some k ≡ None → ⊥
    some_none e = absurd cc

-- the history of a client that was told
abbrev told_history : List (List ℕ) → Option SlotState → History → History
told_history texts slot history = record history { server_commands = history.server_commands ++ texts_told texts slot }

told_at : (server : ServerState) (texts : List (List ℕ)) (histories : List History) (c : ℕ) → c < places
    → history_at (with_texts_told server texts histories) c ≡ told_history texts (slot_at server c) (history_at histories c)
told_at server texts histories c lt =
    get_or-map-range_with_len (λ (k : ℕ). told_history texts (slot_at server k) (history_at histories k)) 0 places c c no_history lt (omega arith)

told_count : (server : ServerState) (texts : List (List ℕ)) (histories : List History) → length (with_texts_told server texts histories) ≡ places
told_count server texts histories = length-map-range_with_len (λ (k : ℕ). told_history texts (slot_at server k) (history_at histories k)) 0 places

-- and of each place
told_grows : (server : ServerState) (texts : List (List ℕ)) (histories : List History) → length histories ≡ places → Grow histories (with_texts_told server texts histories)
told_grows server texts histories count c =
    elim (cases_lt c places) [
      | inl lt ↦
          subst (HistoryGrows (history_at histories c)) (sym (told_at server texts histories c lt))
          (HistoryGrows-beside (history_at histories c) (told_history texts (slot_at server c) (history_at histories c)) refl refl refl refl refl)
      | inr past ↦
          let many = told_count server texts histories in
          let before : history_at histories c ≡ no_history = get_or_past histories c no_history (omega (arith, past, count)) in
          let after : history_at (with_texts_told server texts histories) c ≡ no_history = get_or_past (with_texts_told server texts histories) c no_history (omega (arith, past, many)) in
          subst (HistoryGrows (history_at histories c)) (sym after) (subst (λ (h : History). HistoryGrows h no_history) (sym before) (HistoryGrows-same no_history))
    ]

-- who a client is stays
tells_leaves : (texts : List (List ℕ)) → LeavesClient (tells texts)
tells_leaves texts =
    record {
      host = λ slot. cond_both (is_connected slot.stage) slot (record slot { issued = with_texts slot.issued texts }) (λ (s : SlotState). s.address.host ≡ slot.address.host) (λ e. refl) (λ e. refl);
      qport = λ slot. cond_both (is_connected slot.stage) slot (record slot { issued = with_texts slot.issued texts }) (λ (s : SlotState). s.qport ≡ slot.qport) (λ e. refl) (λ e. refl);
    }

-- one with room
has_room_of : (texts : List (List ℕ)) (slot : SlotState) → is_connected slot.stage ≡ false → lacks_room texts (Some slot) ≡ false → has_room slot.issued (length texts) (total_of texts) ≡ true
has_room_of texts slot begun lacks = not-false (has_room slot.issued (length texts) (total_of texts)) (rw begun at lacks)

module _ (laws : WindowLaws) (profile : Profile) (slot : SlotState) (client : ClientState) (history : History) (texts : List (List ℕ))
    (lacks : lacks_room texts (Some slot) ≡ false) (are : All IsText texts) (own : All (λ text. changes_own text ≡ false) texts) where
  -- what both ends keep of one
  ends_told : (address : Address) → AreEnds profile slot client address history → AreEnds profile (tells texts slot) client address (told_history texts (Some slot) history)
  ends_told address keeps =
      elim (cases_Bool (is_connected slot.stage)) [
        | inl waits ↦
            rw waits (subst (λ (commands : List (List ℕ)). AreEnds profile slot client address (record history { server_commands = commands })) (sym (append-nil history.server_commands)) keeps)
        | inr begun ↦
            rw begun (record {
              of_slot = KeepsSlot-told profile slot history.qport history.host history.built history.run history.server_commands (with_texts slot.issued texts) texts
                  (laws.stays.tells slot.issued texts keeps.of_slot.window (has_room_of texts slot begun lacks) are) are own keeps.of_slot;
              of_client = keeps.of_client;
              challenge = keeps.challenge;
              joined = keeps.joined;
              host = keeps.host;
            })
      ]

  -- and what joins them
  joins_told : (map : MapState) → IsOutgoing slot.issued → AreJoined profile map slot client history → AreJoined profile map (tells texts slot) client (told_history texts (Some slot) history)
  joins_told map window joined =
      elim (cases_Bool (is_connected slot.stage)) [
        | inl waits ↦
            rw waits (subst (λ (commands : List (List ℕ)). AreJoined profile map slot client (record history { server_commands = commands })) (sym (append-nil history.server_commands)) joined)
        | inr begun ↦ rw begun (joined_told laws profile map slot client history texts (has_room_of texts slot begun lacks) are window joined)
      ]

-- the world after a change
abbrev config_changed : Whole → ℕ → List ℕ → Whole
config_changed whole index text =
    record whole {
      ends = record whole.ends { server = change_config whole.ends.server index text };
      histories = with_texts_told whole.ends.server (piece_texts index text) whole.histories;
    }

Holds-config : (profile : Profile) (whole : Whole) (index : ℕ) (text : List ℕ) → Cited profile → IsMap profile (with_config whole.ends.server.map index text)
    → MayTell whole.ends.server (piece_texts index text) → Holds profile whole → Holds profile (config_changed whole index text)
Holds-config profile whole index text cited is may holds =
    let server = whole.ends.server in
    let texts = piece_texts index text in
    let next = with_config server.map index text in
    let told = with_texts_told server texts whole.histories in
    Holds-every profile whole next (tells texts) told
    (record {
      leaves = tells_leaves texts;
      is = is;
      count = told_count server texts whole.histories;
      grows = told_grows server texts whole.histories holds.facts.histories;
      built = λ c lt. ap (λ (h : History). h.built) (told_at server texts whole.histories c lt);
      nobody = λ c lt none nothing.
          told_at server texts whole.histories c lt
          ∙ (ap (λ (s : Option SlotState). told_history texts s (history_at whole.histories c)) none ∙ ap (λ (h : History). told_history texts None h) nothing);
      keeps = λ c slot place lt had.
          subst (AreEnds profile (tells texts slot) place.client place.address) (sym (noted c slot lt had.slot_is))
          (ends_told cited.below.windows profile slot place.client (history_at whole.histories c) texts (lacks c slot lt had.slot_is) may.are may.own place.address had.keeps);
      joins = λ c slot place lt had.
          subst (AreJoined profile next (tells texts slot) place.client) (sym (noted c slot lt had.slot_is))
          (joins_told cited.below.windows profile slot place.client (history_at whole.histories c) texts (lacks c slot lt had.slot_is) may.are may.own next had.keeps.of_slot.window
          (joined_stays profile server.map next (AreMapped-configured server.map (with_string server.map.strings index text)) (Some slot) (Some place) (history_at whole.histories c) had.joined));
    }) holds
  where
    lacks : (c : ℕ) (slot : SlotState) → c < places → slot_at whole.ends.server c ≡ Some slot → lacks_room (piece_texts index text) (Some slot) ≡ false
    lacks c slot lt at = subst (λ (s : Option SlotState). lacks_room (piece_texts index text) s ≡ false) at (may.room c lt)

    noted : (c : ℕ) (slot : SlotState) → c < places → slot_at whole.ends.server c ≡ Some slot
        → history_at (with_texts_told whole.ends.server (piece_texts index text) whole.histories) c ≡ told_history (piece_texts index text) (Some slot) (history_at whole.histories c)
    noted c slot lt at =
        told_at whole.ends.server (piece_texts index text) whole.histories c lt
        ∙ ap (λ (s : Option SlotState). told_history (piece_texts index text) s (history_at whole.histories c)) at

-- what holds after a change, or where it is refused
abbrev Configured : Profile → Whole → ℕ → List ℕ → Handed ConfigRefused → Type 0
Configured profile whole index text given =
    Holds profile (record whole {
      ends = record whole.ends { server = given.server };
      histories = with_told whole.ends.server index text (Given (answers.Config index given.answer)) whole.histories;
    })

-- a config string but string 1: each client for which a gamestate was begun is told, unless one has no room
pub holds_config : (profile : Profile) (whole : Whole) (index : ℕ) (text : List ℕ) → Cited profile → All (λ byte. (0 < byte) × (byte < 256)) text → Holds profile whole
    → Holds profile (with_noted whole
    (with_told whole.ends.server index text (to_server whole.ends (at_server.set_config whole.ends.server index text)).answer whole.histories)
    (to_server whole.ends (at_server.set_config whole.ends.server index text))).whole
holds_config profile whole index text cited bytes holds =
    let server = whole.ends.server in
    cond_both (index == own_string) (record { server = server; answer = Err Own }) (change_or server index text (admit_fault server.map.strings index text)) (Configured profile whole index text)
    (λ own. holds)
    (λ other. of_fault (eqb-false index own_string other) (admit_fault server.map.strings index text) refl)
  where
    told : (index ≡ 1 → ⊥) → Admitted whole.ends.server.map.strings index text → admit_fault whole.ends.server.map.strings index text ≡ None → position (lacks_room (piece_texts index text)) whole.ends.server.slots ≡ None
        → Holds profile (config_changed whole index text)
    told other may fault none =
        Holds-config profile whole index text cited
        (cited.below.maps.configured profile whole.ends.server.map index text other fault holds.facts.map)
        (record {
          room = λ c lt. none_passes (lacks_room (piece_texts index text)) whole.ends.server.slots none c None (omega (arith, lt, holds.facts.slots));
          are = cited.below.configs.pieces whole.ends.server.map.strings index text fault;
          own = pieces_own cited.below.configs.read cited.below.configs.changes index text other may.within may.carried;
        }) holds

    of_place : (index ≡ 1 → ⊥) → Admitted whole.ends.server.map.strings index text → admit_fault whole.ends.server.map.strings index text ≡ None → has_string whole.ends.server.map.strings index text ≡ false → (found : Option ℕ)
        → position (lacks_room (piece_texts index text)) whole.ends.server.slots ≡ found → Configured profile whole index text (change_unless whole.ends.server index text found)
    of_place other may fault changed (Some c) found = holds
    of_place other may fault changed None found = rw changed (told other may fault found)

    of_fault : (index ≡ 1 → ⊥) → (fault : Option ConfigError) → admit_fault whole.ends.server.map.strings index text ≡ fault → Configured profile whole index text (change_or whole.ends.server index text fault)
    of_fault other (Some fault) refused = holds
    of_fault other None none =
        elim (cases_Bool (has_string whole.ends.server.map.strings index text)) [
          | inl same ↦ rw same (rw same holds)
          | inr changed ↦ rw changed (of_place other (cited.below.configs.admitted whole.ends.server.map.strings index text none) none changed (position (lacks_room (piece_texts index text)) whole.ends.server.slots) refl)
        ]

-- ---- moves

-- what holds after a move, or where it is refused
abbrev Moved : Profile → Whole → ℕ → Place → Move → HandedMove MoveError → Type 0
Moved profile whole c place one moving =
    Holds profile (noting whole c (given (with_client whole.ends c place moving.client) (at_client.moved c moving.answer)) (with_issued (history_at whole.histories c) one))

-- a move of a client that has a gamestate
abbrev moves_on : ClientState → Move → HandedMove MoveError
moves_on client one =
    if nat_le one.time client.last_time then record { client = client; answer = Err (NotLater client.last_time) } else
    if is_issuable one then record { client = issue client one; answer = Ok tt }
    else record { client = client; answer = Err Range }

pub holds_move : (profile : Profile) (whole : Whole) (c : ℕ) (one : Move) → IsHeldMove one → c < places → Holds profile whole
    → Holds profile (noting whole c (client_step whole.ends c (events.Move c one)) (with_issued (history_at whole.histories c) one))
holds_move profile whole c one held lt holds =
    elim (found_or (place_at whole.ends c)) [
      | inl none ↦ rw none (unnoted profile whole c holds)
      | inr found ↦
          let client = found.0.client in
          rw found.1 (cond_both (not client.state.has_game) (record { client = client; answer = Err NoGame }) (moves_on client one) (Moved profile whole c found.0 one)
          (λ none. left_alone profile whole c found.0 whole.sent found.1 refl holds)
          (λ game. with_game found.0 found.1 (not-false client.state.has_game game)))
    ]
  where
    with_game : (place : Place) → place_at whole.ends c ≡ Some place → place.client.state.has_game ≡ true → Moved profile whole c place one (moves_on place.client one)
    with_game place at game =
        let client = place.client in
        let had = has_client profile whole c place lt at holds in
        let slot = had.0 in
        let has = had.1 in
        elim (cases_Bool (nat_le one.time client.last_time)) [
          | inl early ↦ rw early (left_alone profile whole c place whole.sent at refl holds)
          | inr later ↦ rw later (elim (cases_Bool (is_issuable one)) [
            | inl may ↦
                let above = leb-false one.time client.last_time later in
                rw may (Holds-issued profile whole c slot place one lt (is_move one held may) above game has
                (mapped_issued whole.ends.server.map slot client (history_at whole.histories c) one.time (omega (arith, above)) has.joined.mapped) holds)
            | inr bad ↦ rw bad (left_alone profile whole c place whole.sent at refl holds)
          ])
        ]

-- ---- commands

-- the server issues one for a client
pub holds_say : (profile : Profile) (whole : Whole) (c : ℕ) (text : List ℕ) → Cited profile → IsText text → c < places → Holds profile whole
    → Holds profile (noting whole c (to_server whole.ends (at_server.say_command whole.ends.server c text)) (with_spoken (history_at whole.histories c) text))
holds_say profile whole c text cited is lt holds =
    elim (found_or (slot_at whole.ends.server c)) [
      | inl none ↦ rw none (unnoted profile whole c holds)
      | inr found ↦
          let slot = found.0 in
          rw found.1 (elim (cases_Bool (changes_own text)) [
            | inl own ↦ rw own (slot_alone profile whole c slot found.1 holds)
            | inr other ↦ rw other (elim (cases_Bool (is_connected slot.stage)) [
              | inl waits ↦ rw waits (slot_alone profile whole c slot found.1 holds)
              | inr begun ↦ rw begun (elim (cases_Bool (has_room slot.issued 1 (length text))) [
                | inl room ↦ rw room (Holds-spoken cited.below.windows profile whole c slot text lt found.1 room is other holds)
                | inr full ↦ rw full (slot_alone profile whole c slot found.1 holds)
              ])
            ])
          ])
    ]
  where
    -- a slot left as it was, of whose client nothing new is noted
    slot_alone : (profile : Profile) (whole : Whole) (c : ℕ) (slot : SlotState) → slot_at whole.ends.server c ≡ Some slot → Holds profile whole
        → Holds profile (record whole { ends = record whole.ends { server = with_slot whole.ends.server c slot }; histories = with_history whole.histories c (history_at whole.histories c) })
    slot_alone profile whole c slot at holds =
        subst (λ (server : ServerState). Holds profile (record whole { ends = record whole.ends { server = server }; histories = with_history whole.histories c (history_at whole.histories c) }))
        (sym (same_server whole.ends.server c slot at)) (unnoted profile whole c holds)

-- and a client issues one
pub holds_type : (profile : Profile) (whole : Whole) (c : ℕ) (text : List ℕ) → Cited profile → IsText text → c < places → Holds profile whole
    → Holds profile (noting whole c (client_step whole.ends c (events.TypeText c text)) (with_typed (history_at whole.histories c) text))
holds_type profile whole c text cited is lt holds =
    elim (found_or (place_at whole.ends c)) [
      | inl none ↦ rw none (unnoted profile whole c holds)
      | inr found ↦
          rw found.1 (elim (cases_Bool (has_room found.0.client.issued 1 (length text))) [
            | inl room ↦ rw room (Holds-typed cited.below.windows profile whole c found.0 text lt found.1 room is holds)
            | inr full ↦ rw full (left_alone profile whole c found.0 whole.sent found.1 refl holds)
          ])
    ]
