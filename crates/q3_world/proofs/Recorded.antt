-- What a client records, and whether it asks for whole snapshots: what holds stays.
use Rattle.std.proofs.Common.{sym, None, Option, Some, List, refl, subst, ◌<◌, ◌≡◌, ℕ}
use Rattle.std.specs.Prelude.{Bool}
use Rattle.std.proofs.lemmas.List.{set-set}
use Rattle.q3_profile.specs.declared.profile.Profile.{Profile}
use Rattle.q3_clmsg.specs.declared.moves.Move.{Move}
use Rattle.q3_map.specs.Map.{MapState}
use Rattle.q3_entity_ring.specs.Snapshot.{Snapshot}
use Rattle.q3_slot.specs.Slot.{SlotState}
use Rattle.q3_built.specs.Built.{Built}
use Rattle.q3_server.specs.Server.{places, slot_at}
use Rattle.q3_client.specs.Client.{ClientState}
use Rattle.q3_client.specs.Sending.{Said}
use Rattle.q3_ends.specs.Recording.{RecordingState, asking}
use Rattle.q3_world.specs.declared.places.Place.{Place}
use Rattle.q3_ends.specs.ClientLine.{client_line, client_after, recording_after}
use Rattle.q3_script.specs.declared.event.Event.{Event}
use Rattle.q3_world.specs.Ends.{place_at, with_place, client_step, client_step_of}
use Rattle.q3_world.specs.World.{History, Tag, Whole, history_at, no_history}
use Rattle.q3_world.specs.StandsFor.{IsClient, IsJoined, KeepsClient, TakesBuilt}
use Rattle.q3_world.proofs.Holding.{Holds, Holds-at, with_client_of}
use Rattle.q3_world.proofs.OnePlace.{OnlyAt-same, OnlyAt-set, set_there}

-- what is said of a client's end and address is said of another place too
pub record Alike (profile : Profile) (old new : Place) : Type 0 where
  pub is : (slot : Option SlotState) (history : History) → IsClient profile slot (Some old) history → IsClient profile slot (Some new) history
  pub joined : (map : MapState) (slot : Option SlotState) (history : History) → IsJoined profile map slot (Some old) history → IsJoined profile map slot (Some new) history

-- the world with another place of a client
abbrev pub placed : Whole → ℕ → Place → Whole
placed whole c new = record whole { ends = with_place whole.ends c new }

pub holds_placed : (profile : Profile) (whole : Whole) (c : ℕ) (old new : Place) → Alike profile old new → c < places → place_at whole.ends c ≡ Some old → Holds profile whole
    → Holds profile (placed whole c new)
holds_placed profile whole c old new alike lt at holds =
    let ends = whole.ends in
    let history = history_at whole.histories c in
    let is = set_there ends.clients c None (Some new) holds.facts.clients lt in
    Holds-at profile c whole (placed whole c new)
    (record {
      by = refl;
      own = refl;
      map = holds.facts.map;
      stays = λ s e h joined. joined;
      at = record {
        slots = OnlyAt-same None c ends.server.slots;
        clients = OnlyAt-set None c ends.clients (Some new);
        histories = OnlyAt-same no_history c whole.histories;
      };
      found = holds.facts.found;
      sent = holds.facts.sent;
      frames = holds.facts.frames;
    })
    (rw is (alike.is (slot_at ends.server c) history
    (subst (λ (e : Option Place). IsClient profile (slot_at ends.server c) e history) at (holds.facts.each c lt))))
    (rw is (alike.joined ends.server.map (slot_at ends.server c) history
    (subst (λ (e : Option Place). IsJoined profile ends.server.map (slot_at ends.server c) e history) at (holds.joined c lt))))
    holds

-- ---- another recording

with_recorded : (profile : Profile) (place : Place) (new : Option RecordingState) → Alike profile place (record place { recording = new })
with_recorded profile place new = record { is = recorded_is; joined = recorded_joined }
  where
    recorded_is : (slot : Option SlotState) (history : History) → IsClient profile slot (Some place) history → IsClient profile slot (Some (record place { recording = new })) history
    recorded_is None history is = absurd is
    recorded_is (Some slot) history is = is

    recorded_joined : (map : MapState) (slot : Option SlotState) (history : History) → IsJoined profile map slot (Some place) history
        → IsJoined profile map slot (Some (record place { recording = new })) history
    recorded_joined map None history joined = tt
    recorded_joined map (Some slot) history joined = joined

pub holds_recording : (profile : Profile) (whole : Whole) (c : ℕ) (place : Place) (new : Option RecordingState) → c < places → place_at whole.ends c ≡ Some place → Holds profile whole
    → Holds profile (record whole { ends = with_place whole.ends c (record place { recording = new }) })
holds_recording profile whole c place new lt at holds = holds_placed profile whole c place (record place { recording = new }) (with_recorded profile place new) lt at holds

-- also where the client's end changed
pub with_recording : (profile : Profile) (whole : Whole) (c : ℕ) (place : Place) (client : ClientState) (new : Option RecordingState) (history : History) (sent : List Tag) → c < places
    → Holds profile whole → Holds profile (with_client_of whole c place client history sent) → Holds profile (with_client_of whole c (record place { recording = new }) client history sent)
with_recording profile whole c place client new history sent lt before holds =
    let world = with_client_of whole c place client history sent in
    let there : Place = record place { client = client } in
    let then : Place = record there { recording = new } in
    subst (λ (clients : List (Option Place)). Holds profile (record world { ends = record whole.ends { clients = clients } })) (set-set whole.ends.clients c (Some there) (Some then))
    (holds_recording profile world c there new lt (set_there whole.ends.clients c None (Some there) before.facts.clients lt) holds)

-- a line of a client's own that leaves the client: a recording begins or has its end, or the client is shown
pub holds_own : (profile : Profile) (whole : Whole) (c : ℕ) (event : Event) → ((place : Place) → client_after place.client (client_line place.client place.recording event) ≡ place.client) → c < places
    → Holds profile whole → Holds profile (record whole { ends = (client_step whole.ends c event).ends })
holds_own profile whole c event leaves lt holds = there (place_at whole.ends c) refl
  where
    there : (found : Option Place) → place_at whole.ends c ≡ found → Holds profile (record whole { ends = (client_step_of whole.ends c event found).ends })
    there None at = holds
    there (Some place) at =
        let new = recording_after place.recording (client_line place.client place.recording event) in
        subst (λ (client : ClientState). Holds profile (record whole { ends = with_place whole.ends c (record place { client = client; recording = new }) })) (sym (leaves place))
        (holds_recording profile whole c place new lt at holds)

-- ---- a client that asks for whole snapshots, or doesn't

asks_keeps : (profile : Profile) (client : ClientState) (on : Bool) (qport : ℕ) (began : List Said) (issued : List Move) (commands : List (List ℕ))
    → KeepsClient profile client qport began issued commands → KeepsClient profile (record client { asks_whole = on }) qport began issued commands
asks_keeps profile client on qport began issued commands keeps = record {
  by = keeps.by;
  applied = keeps.applied;
  ring = keeps.ring;
  from = keeps.from;
  qport = keeps.qport;
  fits = keeps.fits;
  sending = keeps.sending;
  said = keeps.said;
  last = keeps.last;
  rise = keeps.rise;
  moves = keeps.moves;
  carried = keeps.carried;
  window = keeps.window;
  texts = keeps.texts;
}

asks_takes : (profile : Profile) (client : ClientState) (on : Bool) (began : List Built) (took since : List Snapshot) → TakesBuilt profile client began took since
    → TakesBuilt profile (record client { asks_whole = on }) began took since
asks_takes profile client on began took since takes = record {
  accepted = takes.accepted;
  rise = takes.rise;
  stands = takes.stands;
  shows = takes.shows;
  below = takes.below;
  most = takes.most;
  asks = takes.asks;
  gathers = takes.gathers;
  legible = takes.legible;
}

with_asking : (profile : Profile) (place : Place) → Alike profile place (record place { client = asking place.client place.recording })
with_asking profile place = record { is = asking_is; joined = asking_joined }
  where
    there : Place
    there = record place { client = asking place.client place.recording }

    asking_is : (slot : Option SlotState) (history : History) → IsClient profile slot (Some place) history → IsClient profile slot (Some there) history
    asking_is None history is = absurd is
    asking_is (Some slot) history is = record {
      of_slot = is.of_slot;
      of_client = asks_keeps profile place.client _ history.qport history.said history.issued history.client_commands is.of_client;
      challenge = is.challenge;
      joined = is.joined;
      host = is.host;
    }

    asking_joined : (map : MapState) (slot : Option SlotState) (history : History) → IsJoined profile map slot (Some place) history → IsJoined profile map slot (Some there) history
    asking_joined map None history joined = tt
    asking_joined map (Some slot) history joined = record {
      of_client = asks_takes profile place.client _ history.built history.accepted _ joined.of_client;
      of_slot = joined.of_slot;
      asked = joined.asked;
      commanded = record { to_client = joined.commanded.to_client; to_server = joined.commanded.to_server };
      mapped = joined.mapped;
      since = joined.since;
    }

pub holds_asking : (profile : Profile) (whole : Whole) (c : ℕ) (place : Place) → c < places → place_at whole.ends c ≡ Some place → Holds profile whole
    → Holds profile (record whole { ends = with_place whole.ends c (record place { client = asking place.client place.recording }) })
holds_asking profile whole c place lt at holds =
    holds_placed profile whole c place (record place { client = asking place.client place.recording }) (with_asking profile place) lt at holds
