-- A datagram that either end hands out keeps what holds.
use Rattle.std.proofs.Common.{◌∙◌, sym, subst, ◌≡◌, ℕ, ◌+◌, ◌<◌, List, [], ◌∷◌, ◌++◌, length, Bool, true, false, ◌&&◌, Option, Some, refl, arith}
use Rattle.std.specs.Prelude.{IfSome, not}
use Rattle.q3_profile.specs.declared.profile.Profile.{Profile}
use Rattle.q3_io.specs.declared.address.Address.{Address}
use Rattle.q3_chan.specs.Checks.{check_for}
use Rattle.q3_chan.specs.Datagrams.{server_header, client_header, sequence_end}
use Rattle.q3_chan.specs.Sending.{UnderWay, next_of}
use Rattle.q3_chan.specs.Laws.{IsSendable, EndsGather, EndsSend}
use Rattle.q3_window.specs.Flow.{acknowledgement_of, carriage_of}
use Rattle.q3_clmsg.specs.declared.moves.Move.{Move}
use Rattle.q3_frames.specs.Frames.{FramesState}
use Rattle.q3_map.specs.Map.{MapState}
use Rattle.q3_built.specs.Built.{Built, IsSnapshot, IsBuilt, built_bytes}
use Rattle.q3_slot.specs.Slot.{SlotState, asked}
use Rattle.q3_slot.specs.Emitting.{next_snapshot, next_frames}
use Rattle.q3_server.specs.Server.{places, slot_at}
use Rattle.q3_client.specs.Client.{ClientState}
use Rattle.q3_client.specs.Moves.{asks_delta}
use Rattle.q3_client.specs.Sending.{IsSaid, said_bytes, next_message, next_said, wants_delta}
use Rattle.q3_world.specs.declared.made.Direction.TheVariants.{ToClient, ToServer}
use Rattle.q3_world.specs.Layers.{ServerLaws, WindowLaws}
use Rattle.q3_world.specs.declared.places.Place.{Place}
use Rattle.q3_world.specs.Ends.{place_at}
use Rattle.q3_world.specs.World.{Tag, History, Whole, history_at, with_history, with_built, with_said}
use Rattle.q3_server.specs.Standing.{IsMap}
use Rattle.q3_world.specs.StandsFor.{IsPiece, messages_of, messages_said, KeepsClient, KeepsFrames, WasBuilt, acks_built, carried_said, AreCommanded, IsJoined}
use Rattle.q3_world.proofs.Growth.{HistoryGrows-same, HistoryGrows-built, HistoryGrows-said}
use Rattle.q3_world.proofs.Bases.{KeepsFrames-built, frames_too_long, since_accepted}
use Rattle.q3_messages.proofs.Options.{if_some_then}
use Rattle.q3_world.proofs.Clients.{KeepsSlot-handed, KeepsClient-handed, KeepsClient-begun, client_begun, slot_begun, KeepsSlot-begun, BaseIs, next_number, KeepsSlot-stands}
use Rattle.q3_world.proofs.Joined.{TakesBuilt-same, TakesSaid-same, TakesBuilt-more, TakesSaid-more, AreAsked-same, AreAsked-said, AreAsked-built}
use Rattle.q3_world.proofs.Commanded.{MayName, may_name, AreCommanded-built, AreCommanded-said, ack_built, carriage_built}
use Rattle.q3_world.proofs.BegunStays.{handed_piece}
use Rattle.q3_slot.specs.declared.stage.ClientStage.{ClientStage}
use Rattle.q3_world.specs.Games.{AreMapped, accepted_since, standing_of}
use Rattle.q3_world.proofs.Holding.{Holds, Has, has_slot, has_client, sent_grows, sent_more, with_server_of, Holds-slot, frames_stay, with_client_of, Holds-client}

-- ---- the server hands out a datagram

abbrev pub slot_handed : SlotState → SlotState
slot_handed slot = record slot { sending = (next_of slot.sending).sending }

abbrev pub handed_tag : ℕ → SlotState → UnderWay → Tag
handed_tag c slot left = record { client = c; direction = ToClient; number = slot.sending.number; index = left.next; bytes = (next_of slot.sending).datagram }

-- a piece of a message that was begun before is handed out
pub Holds-handed : (profile : Profile) (whole : Whole) (c : ℕ) (slot : SlotState) (left : UnderWay) → EndsSend → c < places
    → slot_at whole.ends.server c ≡ Some slot → slot.sending.under_way ≡ Some left → Holds profile whole
    → Holds profile (with_server_of whole c (slot_handed slot) whole.ends.server.map whole.ends.server.frames (history_at whole.histories c) (whole.sent ++ handed_tag c slot left ∷ []))
Holds-handed profile whole c slot left sends lt found way holds =
    let history = history_at whole.histories c in
    let next = slot_handed slot in
    let had = has_slot profile whole c slot lt found holds in
    let keeps = had.1.keeps in
    let joined = had.1.joined in
    let grows = HistoryGrows-same history in
    Holds-slot profile whole c slot next had.0 whole.ends.server.map whole.ends.server.frames history (whole.sent ++ handed_tag c slot left ∷ []) lt had.1
    (record {
      host = refl;
      qport = refl;
      map_is = holds.facts.map;
      stays = λ s e h joined. joined;
      grows = grows;
      keeps = record { of_slot = KeepsSlot-handed profile slot history.qport history.host history.built history.run history.server_commands sends keeps.of_slot; of_client = keeps.of_client; challenge = keeps.challenge; joined = keeps.joined; host = keeps.host };
      joined = record {
        of_client = joined.of_client;
        of_slot = TakesSaid-same profile slot next history.said history.issued history.run refl joined.of_slot;
        asked = AreAsked-same slot next history.said history.built history.accepted refl joined.asked;
        commanded = record { to_client = joined.commanded.to_client; to_server = joined.commanded.to_server };
        mapped = joined.mapped;
        since = joined.since;
      };
      sent = sent_more profile whole c history (handed_tag c slot left) lt grows refl
          (subst (λ (challenge : ℕ). IsPiece (server_header (check_for profile.protocol challenge)) (messages_of profile history.built) (length history.built) (handed_tag c slot left)) keeps.joined
          (handed_piece (server_header (check_for profile.protocol slot.challenge)) (messages_of profile history.built) (length history.built) slot.sending left (handed_tag c slot left) sends keeps.of_slot.sending way refl refl refl)) holds;
      kept = frames_stay profile whole c history lt refl holds;
    }) holds

-- what the slot executed last is a command that a message can name
pub executed_by_slot : (profile : Profile) (slot : SlotState) (client : ClientState) (history : History)
    → KeepsClient profile client history.qport history.said history.issued history.client_commands → AreCommanded slot client history → MayName slot.executed
executed_by_slot profile slot client history keeps commanded =
    may_name client.issued slot.executed history.client_commands history.server_executed (carried_said history.said) (acks_built history.built) client.gathering.taken slot.gathering.taken keeps.window keeps.texts
    commanded.to_server

-- a message is begun, and its first piece is handed out; with a gamestate its client's stage changes, and the map notes it
pub Holds-begun : WindowLaws → (profile : Profile) (whole : Whole) (c : ℕ) (slot : SlotState) (place : Place) (stage : ClientStage) (owed : Bool) (next : Built) (map : MapState) (frames : FramesState) (left : UnderWay)
    → EndsSend → EndsGather → c < places → Has profile whole c slot place → slot.sending.number + 1 < sequence_end
    → IsBuilt profile slot.challenge (slot.sending.number + 1) next → IsSendable (built_bytes profile next)
    → carriage_built next ≡ carriage_of slot.issued → ack_built next ≡ acknowledgement_of slot.executed
    → IfSome next.base (BaseIs (slot.sending.number + 1) (asked slot) (history_at whole.histories c).built)
    → (slot_begun profile (record slot { stage = stage; owed = owed }) next).sending.under_way ≡ Some left
    → IsMap profile map → ((s : Option SlotState) (e : Option Place) (h : History) → IsJoined profile whole.ends.server.map s e h → IsJoined profile map s e h)
    → KeepsFrames profile frames (with_history whole.histories c (with_built (history_at whole.histories c) (Some next)))
    → AreMapped map (standing_of (record slot { stage = stage; owed = owed })) place.client.state place.client.gathering.taken place.client.last_time
    ((history_at whole.histories c).built ++ next ∷ []) (history_at whole.histories c).games (history_at whole.histories c).said (history_at whole.histories c).accepted (history_at whole.histories c).client_executed
    → Holds profile whole
    → Holds profile (with_server_of whole c (slot_handed (slot_begun profile (record slot { stage = stage; owed = owed }) next)) map frames
    (with_built (history_at whole.histories c) (Some next)) (whole.sent ++ handed_tag c (slot_begun profile (record slot { stage = stage; owed = owed }) next) left ∷ []))
Holds-begun windows profile whole c slot place stage owed built map frames left sends gathers lt had fits is sendable carries acks base way map_is stays kept mapped holds =
    let history = history_at whole.histories c in
    let stands = record slot { stage = stage; owed = owed } in
    let starts = slot_begun profile stands built in
    let more = history.built ++ built ∷ [] in
    let noted = record history { built = more } in
    let next = slot_handed starts in
    let keeps = had.keeps in
    let joined = had.joined in
    let was = if_some_then built.base (BaseIs (slot.sending.number + 1) (asked slot) history.built) (WasBuilt history.built) (λ b known. known.1) base in
    let begun = KeepsSlot-begun profile stands history.qport history.host history.built history.run history.server_commands built sends fits is sendable was
    (KeepsSlot-stands profile slot history.qport history.host history.built history.run history.server_commands stage owed slot.delta keeps.of_slot) in
    let commanded = AreCommanded-built windows.flow slot place.client history built carries acks joined.commanded in
    let grows = HistoryGrows-built history built in
    Holds-slot profile whole c slot next place map frames noted (whole.sent ++ handed_tag c starts left ∷ []) lt had
    (record {
      host = refl;
      qport = refl;
      map_is = map_is;
      stays = stays;
      grows = grows;
      keeps = record { of_slot = KeepsSlot-handed profile starts history.qport history.host more history.run history.server_commands sends begun; of_client = keeps.of_client; challenge = keeps.challenge; joined = keeps.joined; host = keeps.host };
      joined = record {
        of_client = TakesBuilt-more profile place.client history.built history.accepted (accepted_since history.games history.accepted) built gathers joined.of_client;
        of_slot = TakesSaid-same profile slot next history.said history.issued history.run refl joined.of_slot;
        asked = AreAsked-built slot next history.said history.built history.accepted (slot.sending.number + 1) built refl joined.of_client.accepted base joined.asked;
        commanded = record { to_client = commanded.to_client; to_server = commanded.to_server };
        mapped = mapped;
        since = joined.since;
      };
      sent = sent_more profile whole c noted (handed_tag c starts left) lt grows refl
          (subst (λ (challenge : ℕ). IsPiece (server_header (check_for profile.protocol challenge)) (messages_of profile more) (length more) (handed_tag c starts left)) keeps.joined
          (handed_piece (server_header (check_for profile.protocol slot.challenge)) (messages_of profile more) (length more) starts.sending left (handed_tag c starts left) sends begun.sending way refl refl refl)) holds;
      kept = kept;
    }) holds

-- a message proves too long, and its frame stays
pub Holds-too_long : ServerLaws → (profile : Profile) (whole : Whole) (c : ℕ) (slot : SlotState) → c < places → slot_at whole.ends.server c ≡ Some slot
    → IsSnapshot profile (next_snapshot whole.ends.server.map slot) → Holds profile whole
    → Holds profile (with_server_of whole c slot whole.ends.server.map (next_frames whole.ends.server.map whole.ends.server.frames c slot) (history_at whole.histories c) whole.sent)
Holds-too_long laws profile whole c slot lt found is holds =
    let history = history_at whole.histories c in
    let map = whole.ends.server.map in
    let frames = whole.ends.server.frames in
    let had = has_slot profile whole c slot lt found holds in
    let begun = had.1.keeps.of_slot.sending.begun in
    let number = next_number map slot in
    let facts = holds.facts in
    Holds-slot profile whole c slot slot had.0 map (next_frames map frames c slot) history whole.sent lt had.1
    (record {
      host = refl;
      qport = refl;
      map_is = facts.map;
      stays = λ s e h joined. joined;
      grows = HistoryGrows-same history;
      keeps = had.1.keeps;
      joined = had.1.joined;
      sent = sent_grows profile whole c history lt (HistoryGrows-same history) holds;
      kept = KeepsFrames-built laws profile frames whole.histories c history (next_snapshot map slot) lt facts.histories is
          (frames_too_long laws frames c history.built (next_snapshot map slot) (omega (arith, begun, number)) (facts.frames.each c lt)) facts.frames;
    }) holds

-- ---- a client hands out a datagram

abbrev pub client_handed : ClientState → ClientState
client_handed client = record client { sending = (next_of client.sending).sending }

abbrev pub said_tag : ℕ → Address → ClientState → UnderWay → Tag
said_tag c from client left = record { client = c; direction = ToServer from; number = client.sending.number; index = left.next; bytes = (next_of client.sending).datagram }

-- what is left of a client's message goes on
pub Holds-goes : (profile : Profile) (whole : Whole) (c : ℕ) (place : Place) (left : UnderWay) → EndsSend → c < places
    → place_at whole.ends c ≡ Some place → place.client.sending.under_way ≡ Some left → Holds profile whole
    → Holds profile (with_client_of whole c place (client_handed place.client) (history_at whole.histories c) (whole.sent ++ said_tag c (place.address) place.client left ∷ []))
Holds-goes profile whole c place left sends lt found way holds =
    let history = history_at whole.histories c in
    let from = place.address in
    let tag = said_tag c from place.client left in
    let had = has_client profile whole c place lt found holds in
    let keeps = had.1.keeps in
    let joined = had.1.joined in
    let grows = HistoryGrows-same history in
    Holds-client profile whole c had.0 place (client_handed place.client) history (whole.sent ++ tag ∷ []) lt had.1
    (record {
      host = refl;
      qport = refl;
      map_is = holds.facts.map;
      stays = λ s e h joined. joined;
      grows = grows;
      keeps = record { of_slot = keeps.of_slot; of_client = KeepsClient-handed profile place.client history.qport history.said history.issued history.client_commands sends keeps.of_client; challenge = keeps.challenge; joined = keeps.joined; host = keeps.host };
      joined = record { of_client = TakesBuilt-same profile place.client (client_handed place.client) history.built history.accepted (accepted_since history.games history.accepted) refl refl refl refl joined.of_client; of_slot = joined.of_slot; asked = joined.asked; commanded = record { to_client = joined.commanded.to_client; to_server = joined.commanded.to_server }; mapped = joined.mapped; since = joined.since };
      sent = sent_more profile whole c history tag lt grows refl (
        keeps.host,
        subst (λ (challenge : ℕ). IsPiece (client_header (check_for profile.protocol challenge) history.qport) (messages_said profile history.said) (length history.said) tag) (sym keeps.challenge ∙ keeps.joined)
            (handed_piece (client_header (check_for profile.protocol place.client.challenge) history.qport) (messages_said profile history.said) (length history.said) place.client.sending left tag sends keeps.of_client.sending way refl refl refl),
      ) holds;
      kept = frames_stay profile whole c history lt refl holds;
    }) holds

-- a client's message is begun, and its first piece goes out
pub Holds-said : WindowLaws → (profile : Profile) (whole : Whole) (c : ℕ) (slot : SlotState) (place : Place) (left : UnderWay) → EndsSend → EndsGather → c < places
    → Has profile whole c slot place → (client_begun profile place.client).sending.under_way ≡ Some left → place.client.sending.number + 1 < sequence_end
    → IsSaid profile place.client.challenge (next_said place.client) → IsSendable (said_bytes profile (next_said place.client))
    → AreMapped whole.ends.server.map (standing_of slot) place.client.state place.client.gathering.taken place.client.last_time (history_at whole.histories c).built (history_at whole.histories c).games
    ((history_at whole.histories c).said ++ next_said place.client ∷ []) (history_at whole.histories c).accepted (history_at whole.histories c).client_executed → Holds profile whole
    → Holds profile (with_client_of whole c place (client_handed (client_begun profile place.client)) (with_said (history_at whole.histories c) (Some (next_said place.client)))
    (whole.sent ++ said_tag c (place.address) (client_begun profile place.client) left ∷ []))
Holds-said windows profile whole c slot place left sends gathers lt had way fits is sendable mapped holds =
    let history = history_at whole.histories c in
    let from = place.address in
    let begun = client_begun profile place.client in
    let next = next_said place.client in
    let more = history.said ++ next ∷ [] in
    let tag = said_tag c from begun left in
    let keeps = had.keeps in
    let joined = had.joined in
    let since = accepted_since history.games history.accepted in
    let starts = KeepsClient-begun profile place.client history.qport history.said history.issued history.client_commands sends fits is sendable keeps.of_client in
    let commanded = AreCommanded-said windows.flow slot place.client history next refl refl joined.commanded in
    let grows = HistoryGrows-said history next in
    Holds-client profile whole c slot place (client_handed begun) (record history { said = more }) (whole.sent ++ tag ∷ []) lt had
    (record {
      host = refl;
      qport = refl;
      map_is = holds.facts.map;
      stays = λ s e h joined. joined;
      grows = grows;
      keeps = record { of_slot = keeps.of_slot; of_client = KeepsClient-handed profile begun history.qport more history.issued history.client_commands sends starts; challenge = keeps.challenge; joined = keeps.joined; host = keeps.host };
      joined = record {
        of_client = TakesBuilt-same profile place.client (client_handed begun) history.built history.accepted since refl refl refl refl joined.of_client;
        of_slot = TakesSaid-more profile slot history.said history.issued history.run next gathers joined.of_slot;
        asked = AreAsked-said slot history.said history.built history.accepted next (λ so. since_accepted history.games history.accepted place.client.gathering.taken (joined.of_client.asks.0 (asks_only place.client so))) joined.asked;
        commanded = record { to_client = commanded.to_client; to_server = commanded.to_server };
        mapped = mapped;
        since = joined.since;
      };
      sent = sent_more profile whole c (record history { said = more }) tag lt grows refl (
        keeps.host,
        subst (λ (challenge : ℕ). IsPiece (client_header (check_for profile.protocol challenge) history.qport) (messages_said profile more) (length more) tag) (sym keeps.challenge ∙ keeps.joined)
            (handed_piece (client_header (check_for profile.protocol place.client.challenge) history.qport) (messages_said profile more) (length more) begun.sending left tag sends starts.sending way refl refl refl),
      ) holds;
      kept = frames_stay profile whole c (record history { said = more }) lt refl holds;
    }) holds
  where
    asks_so : (delta : Bool) (moves : List Move) → asks_delta delta moves ≡ true → delta ≡ true
    asks_so delta [] so = absurd cc
    asks_so delta (one ∷ moves) so = so

    both_first : (one other : Bool) → (one && other) ≡ true → one ≡ true
    both_first true other so = refl
    both_first false other so = absurd cc

    asks_only : (client : ClientState) → (next_message client).delta ≡ true → client.delta ≡ true
    asks_only client so = both_first client.delta (not client.asks_whole) (asks_so (wants_delta client) (next_message client).moves so)
