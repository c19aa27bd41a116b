-- What holds between any two events, and that it stays where one client changes.
use Rattle.std.proofs.Common.{◌≡◌, ℕ, zero, suc, ◌^◌, ◌<◌, ◌≤◌, false, List, [], ◌∷◌, ◌++◌, length, get_or, replicate, Option, Some, None, refl, sym, ap, subst, ◌∙◌, arith}
use Rattle.std.specs.Prelude.{slice_set, position, IfSome}
use Rattle.std.proofs.lemmas.List.{get_or-replicate, set-get_or}
use Rattle.q3_profile.specs.declared.profile.Profile.{Profile}
use Rattle.q3_player.specs.State.{zero_player}
use Rattle.q3_io.specs.declared.address.Address.{Address}
use Rattle.q3_chan.specs.Laws.{EndsGather, EndsSend}
use Rattle.q3_entity_ring.specs.Places.{no_places}
use Rattle.q3_frames.specs.Frames.{Frame, FramesState}
use Rattle.q3_clstate.specs.Standing.{IsApplied}
use Rattle.q3_clstate.specs.State.{new_state}
use Rattle.q3_map.specs.Map.{MapState}
use Rattle.q3_entity_ring.specs.Snapshot.{Snapshot}
use Rattle.q3_built.specs.Built.{IsHeld, IsSnapshot}
use Rattle.q3_slot.specs.Slot.{SlotState, is_of, new_slot}
use Rattle.q3_server.specs.Server.{ServerState, places, slot_at, with_slot}
use Rattle.q3_client.specs.Client.{ClientState, new_client}
use Rattle.q3_world.specs.Layers.{ServerLaws, RingLaws, WindowLaws}
use Rattle.q3_world.specs.declared.places.Place.{Place}
use Rattle.q3_world.specs.Ends.{Ends, place_at, with_client}
use Rattle.q3_world.specs.World.{Tag, History, Whole, no_history, history_at, with_history, opening}
use Rattle.q3_server.specs.Standing.{IsMap}
use Rattle.q3_server.specs.Laws.{MapStays}
use Rattle.q3_world.specs.StandsFor.{IsChecked, AreEnds, IsClient, IsWay, IsSent, KeepsFrames, Facts, AreJoined, IsJoined, AllJoined}
use Rattle.q3_world.proofs.OnePlace.{set_there, OnlyAt-set, DifferAt, each_at}
use Rattle.q3_world.proofs.Growth.{HistoryGrows, HistoryGrows-joined, Grow-at, AllSent, all_sent_grow, each_more}
use Rattle.q3_world.proofs.Bases.{KeepsFrames-same}
use Rattle.q3_world.proofs.Found.{AllFound, found_changed, found_joined}
use Rattle.q3_world.proofs.Clients.{no_client, a_client, a_slot, KeepsSlot-new, KeepsClient-new}
use Rattle.q3_world.proofs.Joined.{TakesBuilt-new, TakesSaid-new, AreAsked-new}
use Rattle.q3_world.proofs.GamesMoves.{AreSince-new}
use Rattle.q3_world.specs.Games.{AreMapped, standing_of}

-- what holds of a whole world to which no line handed other bytes
pub record Holds (profile : Profile) (whole : Whole) : Type 0 where
  pub facts : Facts profile whole
  pub joined : AllJoined profile whole
  pub own : whole.foreign ≡ false

abbrev none_slot : Option SlotState
none_slot = None

-- at the beginning
pub Holds-opening : (profile : Profile) → MapStays → ServerLaws → IsChecked profile → Holds profile (opening profile)
unfolding opening
Holds-opening profile maps laws checked =
    let no_slots = λ (c : ℕ) (lt : c < places). get_or-replicate {A = Option SlotState} places c None None lt in
    let no_clients = λ (c : ℕ) (lt : c < places). get_or-replicate {A = Option Place} places c None None lt in
    record {
      facts = record {
        checked = checked;
        by = refl;
        slots = refl;
        clients = refl;
        histories = refl;
        map = maps.none profile;
        each = λ c lt. rw (no_slots c lt, no_clients c lt, get_or-replicate places c no_history no_history lt) refl;
        found = λ c slot at. absurd (none_some (sym (nobody places c) ∙ at));
        sent = λ k d lt. absurd (omega (arith, lt));
        frames = record {
          are = record { places = λ slot lt. rw (get_or-replicate places slot no_frame [] lt) refl };
          snapshots = record { each = λ c number. subst (λ (o : Option Snapshot). IfSome o (IsSnapshot profile)) (sym (laws.nothing places profile.server_ring c number)) tt };
          count = refl;
          each = λ c lt number snapshot held some few. absurd (nothing_built c lt number some few);
        };
      };
      joined = λ c lt. rw (no_slots c lt) tt;
      own = refl;
    }
  where
    no_frame : List (Option Frame)
    no_frame = no_places

    nothing_built : (c : ℕ) → c < places → (number : ℕ) → 1 ≤ number → number ≤ length (history_at (replicate places no_history) c).built → ⊥
    nothing_built c lt number some few =
        let none : length (history_at (replicate places no_history) c).built ≡ 0 = ap (λ (h : History). length h.built) (get_or-replicate places c no_history no_history lt) in
        omega (arith, some, few, none)

    nobody : (count c : ℕ) → get_or (replicate count (none_slot)) c none_slot ≡ none_slot
    nobody zero c = refl
    nobody (suc count) zero = refl
    nobody (suc count) (suc c) = nobody count c

    none_some : {slot : SlotState} → none_slot ≡ Some slot → ⊥
    none_some e = absurd cc

-- ---- one client changes

-- the worlds differ only in the parts of one client, in what was sent, and in whether a gamestate of the map was begun, which changes
-- nothing for the others; what was begun only grew, and each client is found
pub record Differ (profile : Profile) (c : ℕ) (old new : Whole) : Type 0 where
  pub by : new.ends.server.profile ≡ old.ends.server.profile
  pub own : new.foreign ≡ old.foreign
  pub map : IsMap profile new.ends.server.map
  pub stays : (slot : Option SlotState) (place : Option Place) (history : History) → IsJoined profile old.ends.server.map slot place history → IsJoined profile new.ends.server.map slot place history
  pub at : DifferAt c old.ends new.ends old.histories new.histories
  pub found : AllFound new.ends.server.slots
  pub sent : AllSent profile new.histories new.sent
  pub frames : KeepsFrames profile new.ends.server.frames new.histories

-- what joins the ends of a client
abbrev OfJoined : Profile → MapState → Option SlotState → Option Place → History → Type 0
OfJoined profile map slot place history = IsJoined profile map slot place history

-- what holds of the others stays
pub Holds-at : (profile : Profile) (c : ℕ) (old new : Whole) → Differ profile c old new
    → IsClient profile (slot_at new.ends.server c) (place_at new.ends c) (history_at new.histories c)
    → IsJoined profile new.ends.server.map (slot_at new.ends.server c) (place_at new.ends c) (history_at new.histories c)
    → Holds profile old → Holds profile new
Holds-at profile c old new differ client joined holds =
    let facts = holds.facts in
    let at = differ.at in
    record {
      facts = record {
        checked = facts.checked;
        by = differ.by ∙ facts.by;
        slots = at.slots.count ∙ facts.slots;
        clients = at.clients.count ∙ facts.clients;
        histories = at.histories.count ∙ facts.histories;
        map = differ.map;
        each = each_at (IsClient profile) c old.ends new.ends old.histories new.histories at client facts.each;
        found = differ.found;
        sent = differ.sent;
        frames = differ.frames;
      };
      joined = each_at (OfJoined profile new.ends.server.map) c old.ends new.ends old.histories new.histories at joined
          (λ k lt. differ.stays (slot_at old.ends.server k) (place_at old.ends k) (history_at old.histories k) (holds.joined k lt));
      own = differ.own ∙ holds.own;
    }

-- ---- a client joins

-- the world with a client that sends from an address
abbrev pub with_new : Whole → ℕ → ℕ → ℕ → Address → SlotState → ClientState → Whole
with_new whole c challenge qport address slot client =
    record whole {
      ends = record {
        server = with_slot whole.ends.server c slot;
        clients = slice_set whole.ends.clients c (Some (record { client = client; address = address; recording = None }));
      };
      histories = with_history whole.histories c (record (history_at whole.histories c) { challenge = challenge; qport = qport; host = address.host });
    }

pub Holds-new : RingLaws → WindowLaws → (profile : Profile) (whole : Whole) (c challenge qport dup : ℕ) (address : Address) → 512 ≤ profile.parse_ring → EndsSend → EndsGather → IsApplied (new_state profile) → IsHeld profile zero_player → c < places
    → qport < 2 ^ 16 → slot_at whole.ends.server c ≡ None → position (is_of address.host qport) whole.ends.server.slots ≡ None
    → AreMapped whole.ends.server.map (standing_of (new_slot profile.protocol challenge qport address)) (new_state profile) 0 0 [] [] [] [] [] → Holds profile whole
    → Holds profile (with_new whole c challenge qport address (new_slot profile.protocol challenge qport address) (new_client profile challenge qport dup))
Holds-new laws windows profile whole c challenge qport dup address ring sends gathers applied first lt fits none alone mapped holds =
    let facts = holds.facts in
    let ends = whole.ends in
    let slots = ends.server.slots in
    let slot = new_slot profile.protocol challenge qport address in
    let client = new_client profile challenge qport dup in
    let history = history_at whole.histories c in
    let there = record history { challenge = challenge; qport = qport; host = address.host } in
    let place : Place = record { client = client; address = address; recording = None } in
    let history_is : history ≡ no_history =
    no_client profile (place_at ends c) history
    (subst (λ (s : Option SlotState). IsClient profile s (place_at ends c) history) none (facts.each c lt)) in
    let slot_is = set_there slots c None (Some slot) facts.slots lt in
    let place_is = set_there ends.clients c None (Some place) facts.clients lt in
    let noted = set_there whole.histories c no_history there facts.histories lt in
    let keeps : AreEnds profile slot client address there = subst (λ (h : History). AreEnds profile slot client address (record h { challenge = challenge; qport = qport; host = address.host })) (sym history_is)
    (record {
      of_slot = KeepsSlot-new windows.stays profile challenge qport address sends first;
      of_client = KeepsClient-new windows.stays profile challenge qport dup applied sends fits;
      challenge = refl;
      joined = refl;
      host = refl;
    }) in
    let joins : AreJoined profile ends.server.map slot client there = subst (λ (h : History). AreJoined profile ends.server.map slot client (record h { challenge = challenge; qport = qport; host = address.host })) (sym history_is)
    (record {
      of_client = TakesBuilt-new laws profile challenge qport dup gathers ring;
      of_slot = TakesSaid-new profile challenge qport address gathers;
      asked = AreAsked-new profile.protocol challenge qport address;
      commanded = record { to_client = windows.flow.opens; to_server = windows.flow.opens };
      mapped = mapped;
      since = AreSince-new;
    }) in
    Holds-at profile c whole (with_new whole c challenge qport address slot client)
    (record {
      by = refl;
      own = refl;
      map = facts.map;
      stays = λ s e h joined. joined;
      at = record {
        slots = OnlyAt-set None c slots (Some slot);
        clients = OnlyAt-set None c ends.clients (Some place);
        histories = OnlyAt-set no_history c whole.histories there;
      };
      found = found_joined slots c slot facts.slots lt none alone facts.found;
      sent = all_sent_grow profile whole.histories (with_history whole.histories c there) whole.sent
          (Grow-at whole.histories c there facts.histories lt (HistoryGrows-joined history there history_is)) facts.sent;
      frames = KeepsFrames-same profile whole.ends.server.frames whole.histories c there lt facts.histories refl facts.frames;
    })
    (rw (slot_is, place_is, noted) keeps)
    (rw (slot_is, place_is, noted) joins)
    holds

-- ---- a client that is there

-- what is known of it: its slot, its place, what both ends keep, and what joins them
pub record Has (profile : Profile) (whole : Whole) (c : ℕ) (slot : SlotState) (place : Place) : Type 0 where
  pub slot_is : slot_at whole.ends.server c ≡ Some slot
  pub place_is : place_at whole.ends c ≡ Some place
  pub keeps : AreEnds profile slot place.client place.address (history_at whole.histories c)
  pub joined : AreJoined profile whole.ends.server.map slot place.client (history_at whole.histories c)

abbrev some_slot : SlotState → Option SlotState
some_slot slot = Some slot

abbrev some_place : Place → Option Place
some_place place = Some place

-- with a slot
pub has_slot : (profile : Profile) (whole : Whole) (c : ℕ) (slot : SlotState) → c < places → slot_at whole.ends.server c ≡ Some slot → Holds profile whole
    → (place : Place) × Has profile whole c slot place
has_slot profile whole c slot lt found holds =
    let history = history_at whole.histories c in
    let map = whole.ends.server.map in
    let ends = a_client profile slot (place_at whole.ends c) history
    (subst (λ (s : Option SlotState). IsClient profile s (place_at whole.ends c) history) found (holds.facts.each c lt)) in
    let joined : IsJoined profile map (some_slot slot) (place_at whole.ends c) history = subst (λ (s : Option SlotState). IsJoined profile map s (place_at whole.ends c) history) found (holds.joined c lt) in
    (ends.0, record { slot_is = found; place_is = ends.1; keeps = ends.2; joined = subst (λ (e : Option Place). IsJoined profile map (some_slot slot) e history) ends.1 joined })

-- with its own end
pub has_client : (profile : Profile) (whole : Whole) (c : ℕ) (place : Place) → c < places → place_at whole.ends c ≡ Some place → Holds profile whole
    → (slot : SlotState) × Has profile whole c slot place
has_client profile whole c place lt found holds =
    let history = history_at whole.histories c in
    let map = whole.ends.server.map in
    let had = a_slot profile (slot_at whole.ends.server c) place history
    (subst (λ (e : Option Place). IsClient profile (slot_at whole.ends.server c) e history) found (holds.facts.each c lt)) in
    let joined : IsJoined profile map (some_slot had.0) (some_place place) history =
    subst (λ (s : Option SlotState). IsJoined profile map s (some_place place) history) had.1
    (subst (λ (e : Option Place). IsJoined profile map (slot_at whole.ends.server c) e history) found (holds.joined c lt)) in
    (had.0, record { slot_is = had.1; place_is = found; keeps = had.2; joined = joined })

-- the server with another slot, another map and other frames
abbrev pub with_both : ServerState → ℕ → SlotState → MapState → FramesState → ServerState
with_both server c slot map frames = record (with_slot server c slot) { map = map; frames = frames }

-- the world in which its slot, its end, the map, the frames, and what is noted of it are these, and this was sent
abbrev pub changed : Whole → ℕ → SlotState → Place → ClientState → MapState → FramesState → History → List Tag → Whole
changed whole c slot place client map frames history sent =
    record {
      ends = record whole.ends { server = with_both whole.ends.server c slot map frames; clients = slice_set whole.ends.clients c (Some (record place { client = client })) };
      histories = with_history whole.histories c history;
      sent = sent;
      foreign = whole.foreign;
    }

-- a change of a client that is there
pub record Changes (profile : Profile) (whole : Whole) (c : ℕ) (slot : SlotState) (place : Place) (slot' : SlotState) (client' : ClientState) (map : MapState) (frames : FramesState) (history : History) (tags : List Tag) : Type 0 where
  pub host : slot'.address.host ≡ slot.address.host
  pub qport : slot'.qport ≡ slot.qport
  pub map_is : IsMap profile map
  pub stays : (s : Option SlotState) (e : Option Place) (h : History) → IsJoined profile whole.ends.server.map s e h → IsJoined profile map s e h
  pub grows : HistoryGrows (history_at whole.histories c) history
  pub keeps : AreEnds profile slot' client' place.address history
  pub joined : AreJoined profile map slot' client' history
  pub sent : AllSent profile (with_history whole.histories c history) tags
  pub kept : KeepsFrames profile frames (with_history whole.histories c history)

pub Holds-changed : (profile : Profile) (whole : Whole) (c : ℕ) (slot slot' : SlotState) (place : Place) (client' : ClientState) (map : MapState) (frames : FramesState) (history : History) (sent : List Tag) → c < places
    → Has profile whole c slot place → Changes profile whole c slot place slot' client' map frames history sent → Holds profile whole
    → Holds profile (changed whole c slot' place client' map frames history sent)
Holds-changed profile whole c slot slot' place client' map frames history sent lt had changes holds =
    let facts = holds.facts in
    let ends = whole.ends in
    let slots = ends.server.slots in
    let there : Place = record place { client = client' } in
    let slot_is = set_there slots c None (Some slot') facts.slots lt in
    let place_is = set_there ends.clients c None (Some there) facts.clients lt in
    let noted = set_there whole.histories c no_history history facts.histories lt in
    Holds-at profile c whole (changed whole c slot' place client' map frames history sent)
    (record {
      by = refl;
      own = refl;
      map = changes.map_is;
      stays = changes.stays;
      at = record {
        slots = OnlyAt-set None c slots (Some slot');
        clients = OnlyAt-set None c ends.clients (Some there);
        histories = OnlyAt-set no_history c whole.histories history;
      };
      found = found_changed slots c slot slot' facts.slots lt had.slot_is changes.host changes.qport facts.found;
      sent = changes.sent;
      frames = changes.kept;
    })
    (rw (slot_is, place_is, noted) changes.keeps)
    (rw (slot_is, place_is, noted) changes.joined)
    holds

-- what was sent stays so
pub sent_grows : (profile : Profile) (whole : Whole) (c : ℕ) (history : History) → c < places → HistoryGrows (history_at whole.histories c) history → Holds profile whole
    → AllSent profile (with_history whole.histories c history) whole.sent
sent_grows profile whole c history lt grows holds =
    all_sent_grow profile whole.histories (with_history whole.histories c history) whole.sent (Grow-at whole.histories c history holds.facts.histories lt grows) holds.facts.sent

-- and so does one datagram more, of a client at a place
pub sent_more : (profile : Profile) (whole : Whole) (c : ℕ) (history : History) (tag : Tag) → c < places → HistoryGrows (history_at whole.histories c) history → tag.client ≡ c
    → IsWay profile history tag tag.direction → Holds profile whole → AllSent profile (with_history whole.histories c history) (whole.sent ++ tag ∷ [])
sent_more profile whole c history tag lt grows at way holds =
    let there : history_at (with_history whole.histories c history) tag.client ≡ history =
    ap (λ (k : ℕ). history_at (with_history whole.histories c history) k) at ∙ set_there whole.histories c no_history history holds.facts.histories lt in
    each_more (λ (k : ℕ) (t : Tag). IsSent profile (with_history whole.histories c history) t) whole.sent tag (sent_grows profile whole c history lt grows holds)
    (record { client = subst (λ (k : ℕ). k < places) (sym at) lt; way = subst (λ (h : History). IsWay profile h tag tag.direction) (sym there) way })

-- ---- parts that are put where they were

-- a slot put where it was
pub same_server : (server : ServerState) (c : ℕ) (slot : SlotState) → slot_at server c ≡ Some slot → with_slot server c slot ≡ server
same_server server c slot found =
    ap (λ (slots : List (Option SlotState)). record server { slots = slots })
    (ap (λ (s : Option SlotState). slice_set server.slots c s) (sym found) ∙ set-get_or server.slots c None)

-- a client put where it was
pub same_clients : (ends : Ends) (c : ℕ) (place : Place) → place_at ends c ≡ Some place → slice_set ends.clients c (Some place) ≡ ends.clients
same_clients ends c place found = ap (λ (s : Option Place). slice_set ends.clients c s) (sym found) ∙ set-get_or ends.clients c None

-- only the slot, the map and the frames change, and what is noted
abbrev pub with_server_of : Whole → ℕ → SlotState → MapState → FramesState → History → List Tag → Whole
with_server_of whole c slot map frames history sent =
    record { ends = record whole.ends { server = with_both whole.ends.server c slot map frames }; histories = with_history whole.histories c history; sent = sent; foreign = whole.foreign }

pub Holds-slot : (profile : Profile) (whole : Whole) (c : ℕ) (slot slot' : SlotState) (place : Place) (map : MapState) (frames : FramesState) (history : History) (sent : List Tag) → c < places
    → Has profile whole c slot place → Changes profile whole c slot place slot' place.client map frames history sent → Holds profile whole
    → Holds profile (with_server_of whole c slot' map frames history sent)
Holds-slot profile whole c slot slot' place map frames history sent lt had changes holds =
    subst (λ (clients : List (Option Place)). Holds profile (record {
      ends = record whole.ends { server = with_both whole.ends.server c slot' map frames; clients = clients };
      histories = with_history whole.histories c history;
      sent = sent;
      foreign = whole.foreign;
    })) (same_clients whole.ends c place had.place_is) (Holds-changed profile whole c slot slot' place place.client map frames history sent lt had changes holds)

-- frames that are kept where no message was begun
pub frames_stay : (profile : Profile) (whole : Whole) (c : ℕ) (history : History) → c < places → history.built ≡ (history_at whole.histories c).built → Holds profile whole
    → KeepsFrames profile whole.ends.server.frames (with_history whole.histories c history)
frames_stay profile whole c history lt built holds =
    KeepsFrames-same profile whole.ends.server.frames whole.histories c history lt holds.facts.histories built holds.facts.frames

-- only the client's own end changes, and what is noted
abbrev pub with_client_of : Whole → ℕ → Place → ClientState → History → List Tag → Whole
with_client_of whole c place client history sent =
    record { ends = with_client whole.ends c place client; histories = with_history whole.histories c history; sent = sent; foreign = whole.foreign }

pub Holds-client : (profile : Profile) (whole : Whole) (c : ℕ) (slot : SlotState) (place : Place) (client' : ClientState) (history : History) (sent : List Tag) → c < places
    → Has profile whole c slot place → Changes profile whole c slot place slot client' whole.ends.server.map whole.ends.server.frames history sent → Holds profile whole
    → Holds profile (with_client_of whole c place client' history sent)
Holds-client profile whole c slot place client' history sent lt had changes holds =
    subst (λ (server : ServerState). Holds profile (record {
      ends = record whole.ends { server = server; clients = slice_set whole.ends.clients c (Some (record place { client = client' })) };
      histories = with_history whole.histories c history;
      sent = sent;
      foreign = whole.foreign;
    })) (same_server whole.ends.server c slot had.slot_is) (Holds-changed profile whole c slot slot place client' whole.ends.server.map whole.ends.server.frames history sent lt had changes holds)
