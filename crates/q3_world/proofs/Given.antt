-- What the game hands in, and a move that a client issues, keep what holds.
use Rattle.std.proofs.Common.{◌≡◌, ℕ, ◌<◌, List, [], ◌∷◌, ◌++◌, true, Option, Some, None, refl, subst}
use Rattle.arrayvec.specs.ArrayVec.{ArrayVec}
use Rattle.q3_profile.specs.declared.profile.Profile.{Profile}
use Rattle.q3_player.specs.State.{normal_player}
use Rattle.q3_player.specs.declared.state.PlayerState.{PlayerState}
use Rattle.q3_clmsg.specs.declared.moves.Move.{Move}
use Rattle.q3_clmsg.specs.Moves.{IsMove}
use Rattle.q3_entity_ring.specs.Snapshot.{Snapshot}
use Rattle.q3_clstate.specs.State.{AppliedState}
use Rattle.q3_map.specs.Map.{MapState}
use Rattle.q3_built.specs.Built.{Built, IsHeld, IsArea}
use Rattle.q3_slot.specs.Slot.{SlotState, with_player, with_area}
use Rattle.q3_server.specs.Server.{places, slot_at, with_slot}
use Rattle.q3_client.specs.Moves.{issue, most_moves}
use Rattle.q3_client.specs.Sending.{Said}
use Rattle.q3_world.specs.declared.places.Place.{Place}
use Rattle.q3_world.specs.Ends.{place_at}
use Rattle.q3_world.specs.World.{History, Whole, history_at, Played}
use Rattle.q3_server.specs.Standing.{IsMap}
use Rattle.q3_world.specs.StandsFor.{IsJoined}
use Rattle.q3_world.proofs.Growth.{HistoryGrows-same, HistoryGrows-beside, noted_same}
use Rattle.q3_world.proofs.Clients.{KeepsSlot-given, KeepsClient-issued}
use Rattle.q3_world.proofs.Joined.{TakesBuilt-same, TakesSaid-same, TakesSaid-issued, AreAsked-same}
use Rattle.q3_world.proofs.GamesMoves.{AreSince-issued}
use Rattle.q3_world.specs.Games.{Standing, AreMapped, accepted_since, standing_of}
use Rattle.q3_world.proofs.Holding.{Holds, Has, has_slot, sent_grows, Holds-slot, frames_stay, with_client_of, Holds-client}

-- ---- what the game hands in for a client

-- a player is handed in, or area bytes
abbrev pub with_new_slot : Whole → ℕ → SlotState → Whole
with_new_slot whole c slot = record whole { ends = record whole.ends { server = with_slot whole.ends.server c slot } }

Holds-given : (profile : Profile) (whole : Whole) (c : ℕ) (slot : SlotState) (player : PlayerState) (area : ArrayVec ℕ) → c < places
    → slot_at whole.ends.server c ≡ Some slot → (IsHeld profile slot.player → IsHeld profile player) → (IsArea slot.area.items → IsArea area.items) → Holds profile whole
    → Holds profile (with_new_slot whole c (record slot { player = player; area = area }))
Holds-given profile whole c slot player area lt found held is holds =
    let history = history_at whole.histories c in
    let next = record slot { player = player; area = area } in
    let had = has_slot profile whole c slot lt found holds in
    let keeps = had.1.keeps in
    let joined = had.1.joined in
    subst (λ (histories : List History). Holds profile (record { ends = record whole.ends { server = with_slot whole.ends.server c next }; histories = histories; sent = whole.sent; foreign = whole.foreign }))
    (noted_same whole.histories c)
    (Holds-slot profile whole c slot next had.0 whole.ends.server.map whole.ends.server.frames history whole.sent lt had.1
    (record {
      host = refl;
      qport = refl;
      map_is = holds.facts.map;
      stays = λ s e h joined. joined;
      grows = HistoryGrows-same history;
      keeps = record {
        of_slot = KeepsSlot-given profile slot history.qport history.host history.built history.run history.server_commands player area (held keeps.of_slot.player) (is keeps.of_slot.area) keeps.of_slot;
        of_client = keeps.of_client;
        challenge = keeps.challenge;
        joined = keeps.joined;
        host = keeps.host;
      };
      joined = record {
        of_client = joined.of_client;
        of_slot = TakesSaid-same profile slot next history.said history.issued history.run refl joined.of_slot;
        asked = AreAsked-same slot next history.said history.built history.accepted refl joined.asked;
        commanded = record { to_client = joined.commanded.to_client; to_server = joined.commanded.to_server };
        mapped = joined.mapped;
        since = joined.since;
      };
      sent = sent_grows profile whole c history lt (HistoryGrows-same history) holds;
      kept = frames_stay profile whole c history lt refl holds;
    }) holds)

pub Holds-player : (profile : Profile) (whole : Whole) (c : ℕ) (slot : SlotState) (player : PlayerState) → c < places
    → slot_at whole.ends.server c ≡ Some slot → IsHeld profile (normal_player profile.player.kinds player) → Holds profile whole
    → Holds profile (with_new_slot whole c (with_player profile slot player))
Holds-player profile whole c slot player lt found held holds =
    Holds-given profile whole c slot (normal_player profile.player.kinds player) slot.area lt found (λ old. held) (λ old. old) holds

pub Holds-area : (profile : Profile) (whole : Whole) (c : ℕ) (slot : SlotState) (area : List ℕ) → c < places
    → slot_at whole.ends.server c ≡ Some slot → IsArea area → Holds profile whole
    → Holds profile (with_new_slot whole c (with_area slot area))
Holds-area profile whole c slot area lt found is holds =
    Holds-given profile whole c slot slot.player (record { items = area }) lt found (λ old. old) (λ old. is) holds

-- ---- a client issues a move

pub Holds-issued : (profile : Profile) (whole : Whole) (c : ℕ) (slot : SlotState) (place : Place) (one : Move) → c < places → IsMove one
    → place.client.last_time < one.time → place.client.state.has_game ≡ true → Has profile whole c slot place
    → AreMapped whole.ends.server.map (standing_of slot) place.client.state place.client.gathering.taken one.time (history_at whole.histories c).built (history_at whole.histories c).games
    (history_at whole.histories c).said (history_at whole.histories c).accepted (history_at whole.histories c).client_executed → Holds profile whole
    → Holds profile (with_client_of whole c place (issue place.client one) (record (history_at whole.histories c) { issued = (history_at whole.histories c).issued ++ one ∷ [] }) whole.sent)
Holds-issued profile whole c slot place one lt is later game had mapped holds =
    let history = history_at whole.histories c in
    let next = issue place.client one in
    let noted = record history { issued = history.issued ++ one ∷ [] } in
    let keeps = had.keeps in
    let joined = had.joined in
    let grows = HistoryGrows-beside history noted refl refl refl refl refl in
    Holds-client profile whole c slot place next noted whole.sent lt had
    (record {
      host = refl;
      qport = refl;
      map_is = holds.facts.map;
      stays = λ s e h joined. joined;
      grows = grows;
      keeps = record { of_slot = keeps.of_slot; of_client = KeepsClient-issued profile place.client history.qport history.said history.issued history.client_commands one is later keeps.of_client; challenge = keeps.challenge; joined = keeps.joined; host = keeps.host };
      joined = record {
        of_client = TakesBuilt-same profile place.client next history.built history.accepted (accepted_since history.games history.accepted) refl refl refl refl joined.of_client;
        of_slot = TakesSaid-issued profile slot history.said history.issued history.run one joined.of_slot;
        asked = joined.asked;
        commanded = record { to_client = joined.commanded.to_client; to_server = joined.commanded.to_server };
        mapped = mapped;
        since = AreSince-issued place.client.state place.client.gathering.taken place.client.last_time history.built history.games history.accepted history.client_executed most_moves place.client.moves (record { begun = place.client.sending.number; one = one }) game later joined.mapped.has joined.since;
      };
      sent = sent_grows profile whole c noted lt grows holds;
      kept = frames_stay profile whole c noted lt refl holds;
    }) holds

-- ---- the map changes

abbrev pub with_map : Whole → MapState → Whole
with_map whole map = record whole { ends = record whole.ends { server = record whole.ends.server { map = map } } }

pub Holds-map : (profile : Profile) (whole : Whole) (map : MapState) → IsMap profile map
    → ((s : Option SlotState) (e : Option Place) (h : History) → IsJoined profile whole.ends.server.map s e h → IsJoined profile map s e h)
    → Holds profile whole → Holds profile (with_map whole map)
Holds-map profile whole map is stays holds =
    let facts = holds.facts in
    record {
      facts = record {
        checked = facts.checked;
        by = facts.by;
        slots = facts.slots;
        clients = facts.clients;
        histories = facts.histories;
        map = is;
        each = facts.each;
        found = facts.found;
        sent = facts.sent;
        frames = facts.frames;
      };
      joined = λ c lt. stays (slot_at whole.ends.server c) (place_at whole.ends c) (history_at whole.histories c) (holds.joined c lt);
      own = holds.own;
    }

-- what joins the ends on one map joins them on another, where it does so for those that are on it
pub joined_stays : (profile : Profile) (old new : MapState)
    → ((slot : Standing) (state : AppliedState) (taken last : ℕ) (built : List Built) (games : List Played) (said : List Said) (accepted : List Snapshot) (executed : List (List ℕ))
    → AreMapped old slot state taken last built games said accepted executed → AreMapped new slot state taken last built games said accepted executed)
    → (s : Option SlotState) (e : Option Place) (h : History) → IsJoined profile old s e h → IsJoined profile new s e h
joined_stays profile old new stays None None h joined = tt
joined_stays profile old new stays None (Some place) h joined = tt
joined_stays profile old new stays (Some slot) None h joined = tt
joined_stays profile old new stays (Some slot) (Some place) h joined = record {
  of_client = joined.of_client;
  of_slot = joined.of_slot;
  asked = joined.asked;
  commanded = joined.commanded;
  mapped = stays (standing_of slot) place.client.state place.client.gathering.taken place.client.last_time h.built h.games h.said h.accepted h.client_executed joined.mapped;
  since = joined.since;
}
