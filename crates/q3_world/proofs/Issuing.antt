-- An end issues a command.
use Rattle.std.proofs.Common.{◌≡◌, ℕ, ◌<◌, List, [], ◌∷◌, ◌++◌, length, true, false, refl, subst, arith}
use Rattle.std.specs.Prelude.{All, Some}
use Rattle.std.proofs.lemmas.List.Elements.{All-nil, All-cons}
use Rattle.q3_text.specs.declared.text.Command.{Command}
use Rattle.q3_text.specs.Texts.{IsText}
use Rattle.q3_window.specs.Outgoing.{OutgoingState, IsOutgoing, fits as has_room, total_of, with_texts}
use Rattle.q3_window.specs.Incoming.{IncomingState}
use Rattle.q3_window.specs.Flow.{Carriage, Flow}
use Rattle.q3_profile.specs.declared.profile.Profile.{Profile}
use Rattle.q3_map.specs.Map.{MapState}
use Rattle.q3_slot.specs.Slot.{SlotState}
use Rattle.q3_slot.specs.Slots.{changes_own}
use Rattle.q3_server.specs.Server.{places, slot_at}
use Rattle.q3_client.specs.Client.{ClientState}
use Rattle.q3_world.specs.Layers.{WindowLaws}
use Rattle.q3_world.specs.declared.places.Place.{Place}
use Rattle.q3_world.specs.Ends.{place_at}
use Rattle.q3_world.specs.World.{Whole, History, history_at}
use Rattle.q3_world.specs.Games.{accepted_since}
use Rattle.q3_world.specs.StandsFor.{AreJoined, carried_built, acks_built, carried_said, acks_said}
use Rattle.q3_world.proofs.Growth.{HistoryGrows-beside}
use Rattle.q3_world.proofs.Clients.{KeepsSlot-told, KeepsClient-typed}
use Rattle.q3_world.proofs.Joined.{TakesBuilt-same, TakesSaid-same, AreAsked-same}
use Rattle.q3_world.proofs.Holding.{Holds, has_slot, has_client, with_server_of, Holds-slot, frames_stay, sent_grows, with_client_of, Holds-client}

-- what holds of the windows of both ends after texts that fit
record IssuesSo (window : OutgoingState) (incoming : IncomingState) (issued executed : List (List ℕ)) (carries : List Carriage) (acks : List Command) (taken came : ℕ) (texts : List (List ℕ)) : Type 0 where
  is : IsOutgoing (with_texts window texts)
  flow : Flow (with_texts window texts) incoming (issued ++ texts) executed carries acks taken came

issues_so : WindowLaws → (window : OutgoingState) (incoming : IncomingState) (issued executed : List (List ℕ)) (carries : List Carriage) (acks : List Command) (taken came : ℕ) (texts : List (List ℕ))
    → has_room window (length texts) (total_of texts) ≡ true → All IsText texts → IsOutgoing window → Flow window incoming issued executed carries acks taken came
    → IssuesSo window incoming issued executed carries acks taken came texts
issues_so laws window incoming issued executed carries acks taken came texts room are was flow =
    record {
      is = laws.stays.tells window texts was room are;
      flow = (laws.flow.issues window incoming issued executed carries acks taken came texts flow).0;
    }

-- what joins the ends of a client to whom commands are issued
pub joined_told : WindowLaws → (profile : Profile) (map : MapState) (slot : SlotState) (client : ClientState) (history : History) (texts : List (List ℕ)) → has_room slot.issued (length texts) (total_of texts) ≡ true
    → All IsText texts → IsOutgoing slot.issued → AreJoined profile map slot client history
    → AreJoined profile map (record slot { issued = with_texts slot.issued texts }) client (record history { server_commands = history.server_commands ++ texts })
joined_told laws profile map slot client history texts room are window joined =
    let next = record slot { issued = with_texts slot.issued texts } in
    let so = issues_so laws slot.issued client.state.executed history.server_commands history.client_executed (carried_built history.built) (acks_said history.said) slot.gathering.taken client.gathering.taken texts room are
    window joined.commanded.to_client in
    record {
      of_client = joined.of_client;
      of_slot = TakesSaid-same profile slot next history.said history.issued history.run refl joined.of_slot;
      asked = AreAsked-same slot next history.said history.built history.accepted refl joined.asked;
      commanded = record { to_client = so.flow; to_server = joined.commanded.to_server };
      mapped = joined.mapped;
      since = joined.since;
    }

-- the server issues one for a client
pub Holds-spoken : WindowLaws → (profile : Profile) (whole : Whole) (c : ℕ) (slot : SlotState) (text : List ℕ) → c < places → slot_at whole.ends.server c ≡ Some slot
    → has_room slot.issued 1 (length text) ≡ true → IsText text → changes_own text ≡ false → Holds profile whole
    → Holds profile (with_server_of whole c (record slot { issued = with_texts slot.issued (text ∷ []) }) whole.ends.server.map whole.ends.server.frames
    (record (history_at whole.histories c) { server_commands = (history_at whole.histories c).server_commands ++ text ∷ [] }) whole.sent)
Holds-spoken laws profile whole c slot text lt found room is own holds =
    let history = history_at whole.histories c in
    let texts = text ∷ [] in
    let next = record slot { issued = with_texts slot.issued texts } in
    let noted = record history { server_commands = history.server_commands ++ texts } in
    let had = has_slot profile whole c slot lt found holds in
    let place = had.0 in
    let client = place.client in
    let keeps = had.1.keeps in
    let grows = HistoryGrows-beside history noted refl refl refl refl refl in
    let total : length text ≡ total_of texts = omega arith in
    let room_of : has_room slot.issued (length texts) (total_of texts) ≡ true = subst (λ (k : ℕ). has_room slot.issued 1 k ≡ true) total room in
    let are = All-cons IsText text [] is (All-nil IsText) in
    let none = All-cons (λ (t : List ℕ). changes_own t ≡ false) text [] own (All-nil (λ (t : List ℕ). changes_own t ≡ false)) in
    let window = laws.stays.tells slot.issued texts keeps.of_slot.window room_of are in
    Holds-slot profile whole c slot next place whole.ends.server.map whole.ends.server.frames noted whole.sent lt had.1
    (record {
      host = refl;
      qport = refl;
      map_is = holds.facts.map;
      stays = λ s e h joined. joined;
      grows = grows;
      keeps = record {
        of_slot = KeepsSlot-told profile slot history.qport history.host history.built history.run history.server_commands (with_texts slot.issued texts) texts window are none keeps.of_slot;
        of_client = keeps.of_client;
        challenge = keeps.challenge;
        joined = keeps.joined;
        host = keeps.host;
      };
      joined = joined_told laws profile whole.ends.server.map slot client history texts room_of are keeps.of_slot.window had.1.joined;
      sent = sent_grows profile whole c noted lt grows holds;
      kept = frames_stay profile whole c noted lt refl holds;
    }) holds

-- a client issues one
pub Holds-typed : WindowLaws → (profile : Profile) (whole : Whole) (c : ℕ) (place : Place) (text : List ℕ) → c < places → place_at whole.ends c ≡ Some place
    → has_room place.client.issued 1 (length text) ≡ true → IsText text → Holds profile whole
    → Holds profile (with_client_of whole c place (record place.client { issued = with_texts place.client.issued (text ∷ []) })
    (record (history_at whole.histories c) { client_commands = (history_at whole.histories c).client_commands ++ text ∷ [] }) whole.sent)
Holds-typed laws profile whole c place text lt found room is holds =
    let history = history_at whole.histories c in
    let texts = text ∷ [] in
    let next = record place.client { issued = with_texts place.client.issued texts } in
    let noted = record history { client_commands = history.client_commands ++ text ∷ [] } in
    let had = has_client profile whole c place lt found holds in
    let slot = had.0 in
    let keeps = had.1.keeps in
    let joined = had.1.joined in
    let grows = HistoryGrows-beside history noted refl refl refl refl refl in
    let total : length text ≡ total_of texts = omega arith in
    let room_of : has_room place.client.issued (length texts) (total_of texts) ≡ true = subst (λ (k : ℕ). has_room place.client.issued 1 k ≡ true) total room in
    let so = issues_so laws place.client.issued slot.executed history.client_commands history.server_executed (carried_said history.said) (acks_built history.built) place.client.gathering.taken slot.gathering.taken texts room_of
    (All-cons IsText text [] is (All-nil IsText)) keeps.of_client.window joined.commanded.to_server in
    Holds-client profile whole c slot place next noted whole.sent lt had.1
    (record {
      host = refl;
      qport = refl;
      map_is = holds.facts.map;
      stays = λ s e h joined. joined;
      grows = grows;
      keeps = record {
        of_slot = keeps.of_slot;
        of_client = KeepsClient-typed profile place.client history.qport history.said history.issued history.client_commands (with_texts place.client.issued texts) text so.is is keeps.of_client;
        challenge = keeps.challenge;
        joined = keeps.joined;
        host = keeps.host;
      };
      joined = record {
        of_client = TakesBuilt-same profile place.client next history.built history.accepted (accepted_since history.games history.accepted) refl refl refl refl joined.of_client;
        of_slot = joined.of_slot;
        asked = joined.asked;
        commanded = record { to_client = joined.commanded.to_client; to_server = so.flow };
        mapped = joined.mapped;
        since = joined.since;
      };
      sent = sent_grows profile whole c noted lt grows holds;
      kept = frames_stay profile whole c noted lt refl holds;
    }) holds
