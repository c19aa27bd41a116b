-- A datagram arrives by its bytes as by its tag.
use Rattle.q3_rings.specs.declared.rings.NoBase.TheVariants.{EntitiesGone}
use Rattle.std.proofs.Common.{is_some, ◌≡◌, ◌-◌, ◌^◌, ◌<◌, Bool, true, false, List, [], ◌∷◌, length, Option, Some, None, Result, Ok, refl, sym, ap, subst, ◌∙◌, inl, inr, arith, ◌++◌, ◌≤◌, ℕ, lit<}
use Rattle.std.specs.Prelude.{◌||◌, slice_get, All, Contains, ◌⊎◌, IfSome, if◌then◌else◌, map}
use Rattle.std.specs.Option.{option_map}
use Rattle.std.proofs.lemmas.List.{append-nil}
use Rattle.std.proofs.lemmas.List.Elements.{All-nil, All-get_or, Contains-get_or}
use Rattle.std.proofs.lemmas.Option.{slice_get-map, slice_get_within, get_or_from_slice_get}
use Rattle.q3_profile.specs.declared.profile.Profile.{Profile}
use Rattle.q3_io.specs.declared.address.Address.{Address}
use Rattle.q3_clmsg.specs.declared.moves.Move.{Move}
use Rattle.q3_clmsg.specs.declared.error.ClientIllegible.{ClientIllegible}
use Rattle.q3_clmsg.specs.Values as client_told
use Rattle.q3_window.specs.Outgoing.{OutgoingState, IsOutgoing, acknowledge_at}
use Rattle.q3_window.specs.Incoming.{fresh_of, gap_in, executes, jump_at, IncomingState}
use Rattle.q3_window.specs.Flow.{Flow}
use Rattle.q3_svmsg.specs.declared.error.Illegible.{Illegible}
use Rattle.q3_entity_ring.specs.Snapshot.{Snapshot}
use Rattle.q3_rings.specs.Rings.{accept_at}
use Rattle.q3_clstate.specs.State.{Application, apply_message, AppliedState, accepts, after_gamestate, applies_game, heard_with, hearing, passes}
use Rattle.q3_chan.specs.declared.form.Form.{Form}
use Rattle.q3_chan.specs.Checks.{is_checked, check_for}
use Rattle.q3_chan.specs.declared.gatherer.Gathered.{Gathered}
use Rattle.q3_chan.specs.declared.gatherer.Gathered.TheVariants as gathered
use Rattle.q3_chan.specs.declared.qport.NoQport.{NoQport}
use Rattle.q3_chan.specs.Datagrams.{Header, server_form, client_form, server_header, client_header, datagram}
use Rattle.q3_chan.specs.Sending.{Sending}
use Rattle.q3_chan.specs.Gathering.{Gathering, Took, gathered as gathered_of}
use Rattle.q3_chan.specs.Tags.{tagged, IsQuiet, PieceDoes}
use Rattle.q3_chan.specs.Senders.{qport_of}
use Rattle.q3_chan.specs.Laws.{HoldsFront, SentIsTagged, Gathers}
use Rattle.q3_client.specs.Client.{ClientState, Taken, Reception, receive_message, receive_bytes, applies, applies_read, take_answer, take_gathered}
use Rattle.q3_client.specs.Sending.{said_bytes, Said, IsSaid}
use Rattle.q3_built.specs.Built.{Built, IsNear, IsBuilt, BuildsGame, BuildsSnapshot, Telling, number_of, built_bytes, plain_bytes}
use Rattle.q3_slot.specs.Slot.{SlotState}
use Rattle.q3_slot.specs.Taking.{asked_with, delta_after, said_by, Came, OfMap, OfOther, asks_game, heads_of, moves_on, came_as, goes_on}
use Rattle.q3_server.specs.Server.{places, slot_at}
use Rattle.q3_server.specs.Taking.{sender_of}
use Rattle.q3_slot.specs.Taking as by_slot
use Rattle.q3_server.specs.Taking as hears
use Rattle.q3_world.specs.declared.made.Direction.{Direction}
use Rattle.q3_world.specs.declared.made.Direction.TheVariants.{ToClient, ToServer}
use Rattle.q3_messages.specs.MessageLaws.{HoldsThis}
use Rattle.q3_report.specs.declared.answer.Front.TheVariants as fronts
use Rattle.q3_world.specs.declared.places.Place.{Place}
use Rattle.q3_world.specs.Ends as by_ends
use Rattle.q3_world.specs.Ends.{place_at, client_takes, server_takes}
use Rattle.q3_world.specs.Kept.{kept_ends, arrive_at, deliver_at}
use Rattle.q3_world.specs.World.{Tag, Whole, History, no_said, history_at, named, to_client, said_under, server_took, to_server, arrive, deliver, Played, game_in, texts_of, with_game, with_taken, with_heard, deliver_as, bytes_of}
use Rattle.q3_world.specs.StandsFor.{BeginsMessages, KeepsSlot, IsPiece, IsSent, IsClient, IsWay, WasBuilt, WasAccepted, carried_built, acks_built, carried_said, acks_said, AreCommanded, messages_of, messages_said, KeepsClient, TakesBuilt}
use Rattle.q3_world.proofs.Recorded.{with_recording}
use Rattle.q3_world.proofs.MoveLists.{consecutive_issued}
use Rattle.q3_world.proofs.Clients.{no_client, no_end, at_number, said_number, KeepsSlot-ran, KeepsSlot-acknowledged}
use Rattle.q3_world.proofs.Joined.{TakesBuilt-gathered, TakesBuilt-passed, TakesBuilt-accepted, TakesBuilt-started, AreAsked-accepted}
use Rattle.q3_messages.proofs.Options.{if_some_then}
use Rattle.q3_clstate.specs.Standing.{IsApplied}
use Rattle.q3_world.proofs.Knowing.{KnownBase, known_base, holds_this}
use Rattle.q3_world.proofs.Applying.{applies_message, applies_game_message}
use Rattle.q3_world.proofs.Commanded.{ClientHears, client_hears, SlotHears, slot_hears}
use Rattle.q3_world.proofs.Holding.{Holds, Has, has_slot, has_client, with_client_of}
use Rattle.q3_world.proofs.Came.{TakesSo, Holds-taken, HearsSo, Holds-heard, tag_was_built, names_built}
use Rattle.q3_svmsg.specs.Values.{Told}
use Rattle.q3_text.specs.declared.text.Command.{Command}
use Rattle.q3_gamestate.specs.Values.{Gamestate}
use Rattle.q3_slot.specs.declared.stage.ClientStage.TheVariants.{Connected, Primed, Active}
use Rattle.q3_world.proofs.Came as taking
use Rattle.q3_world.proofs.StepsByTags.{Cited, kept_of, Agree, found_or}
use Rattle.q3_clstate.specs.declared.applied.SnapOutcome.TheVariants.{Skipped}
use Rattle.q3_map.specs.Map.{MapState, is_other}
use Rattle.q3_slot.specs.declared.stage.ClientStage.{ClientStage}
use Rattle.q3_world.proofs.GamesMoves.{since_more, since_none, since_were, issued_most, AreSince-started}
use Rattle.q3_world.proofs.Mapped.{fresh_own, jump_same, mapped_accepted, mapped_base, mapped_baselines, mapped_other, mapped_started, mapped_runs, mapped_passed}
use Rattle.q3_world.proofs.Plays.{plays_are, plays_on}
use Rattle.q3_world.specs.Games.{Carries, accepted_since, AreMapped, standing_of}
use Rattle.std.proofs.lemmas.Bool.{cases_Bool}
use Rattle.q3_messages.proofs.Survives.{taken_by_bytes, checked_so}

-- ---- what a datagram does

-- by its bytes a datagram does what it does by its tag
pub piece_is : (messages : ℕ → List ℕ) (g : Gathering) (header : Header) (count : ℕ) (sending : Sending) (tag : Tag) → SentIsTagged → HoldsFront messages g → g.form ≡ header.form
    → header.qport < 2 ^ 16 → BeginsMessages header messages count sending → IsPiece header messages count tag
    → gathered_of g tag.bytes ≡ tagged g tag.number (messages tag.number) tag.index
piece_is messages g header count sending tag law front from fits begins is =
    let begun = is.begun in
    let short = begins.short in
    let n = tag.number in
    ap (gathered_of g) (is.bytes ∙ ap (λ (f : Form). datagram (record { form = f; qport = header.qport }) n (messages n) tag.index) (sym from))
    ∙ (law messages g header.qport n tag.index front fits is.some (omega (arith, begun, short)) (begins.sendable n is.some is.begun) is.piece).0

-- ---- delivering to a client

abbrev pub Read : Type 0
Read = Result Reception Illegible

-- where nothing came whole, nothing is read
pub quiet_same : (client : ClientState) (answer : Gathered) (read other : ℕ → Read) → IsQuiet answer → take_answer client answer read ≡ take_answer client answer other
quiet_same client gathered.Partial read other is = refl
quiet_same client gathered.Old read other is = refl
quiet_same client gathered.OutOfOrder read other is = refl
quiet_same client answer read other is = absurd is

-- the client is as it was, and accepts, executes and applies nothing
pub record Unmoved (client : ClientState) (taken : Taken) : Type 0 where
  pub client_is : taken.client ≡ client
  pub accepted : taken.accepted ≡ None
  pub heard : taken.heard ≡ []
  pub game : (section : Told) → game_in taken.answer section ≡ None

pub quiet_client : (client : ClientState) (answer : Gathered) (read : ℕ → Read) → IsQuiet answer → Unmoved client (take_answer client answer read)
quiet_client client gathered.Partial read is = record { client_is = refl; accepted = refl; heard = refl; game = λ section. refl }
quiet_client client gathered.Old read is = record { client_is = refl; accepted = refl; heard = refl; game = λ section. refl }
quiet_client client gathered.OutOfOrder read is = record { client_is = refl; accepted = refl; heard = refl; game = λ section. refl }
quiet_client client answer read is = absurd is

-- what comes whole is received as the message that was built
pub taken_alike : (profile : Profile) (client : ClientState) (took : Took) (number : ℕ) (built : Built)
    → (client.gathering.taken < number → receive_bytes client number (built_bytes profile built) ≡ Ok (receive_message client number built.message (plain_bytes profile built)))
    → PieceDoes client.gathering number (built_bytes profile built) took
    → take_gathered client took (λ n. receive_bytes client n took.message) ≡ take_gathered client took (λ n. Ok (receive_message client n built.message (plain_bytes profile built)))
taken_alike profile client took number built received does =
    let now = record client { gathering = took.gathering } in
    elim does.either [
      | inl waits ↦ quiet_same now took.answer (λ n. receive_bytes client n took.message) (λ n. Ok (receive_message client n built.message (plain_bytes profile built))) waits.quiet
      | inr came ↦
          let read : receive_bytes client number took.message ≡ Ok (receive_message client number built.message (plain_bytes profile built)) =
          ap (λ (m : List ℕ). receive_bytes client number m) came.message_is ∙ received came.newer in
          ap (λ (a : Gathered). take_answer now a (λ n. receive_bytes client n took.message)) came.answer
          ∙ (ap (λ (x : Read). applies_read now x) read ∙ ap (λ (a : Gathered). take_answer now a (λ n. Ok (receive_message client n built.message (plain_bytes profile built)))) (sym came.answer))
    ]

-- a tag of a datagram for a client
abbrev pub IsFor : Profile → Whole → Tag → Type 0
IsFor profile whole tag =
    (tag.client < places)
    × IsPiece (server_header (check_for profile.protocol (history_at whole.histories tag.client).challenge)) (messages_of profile (history_at whole.histories tag.client).built) (length (history_at whole.histories tag.client).built) tag

-- its client is there
pub client_of_tag : (profile : Profile) (whole : Whole) (tag : Tag) → IsFor profile whole tag → Holds profile whole
    → (place : Place) × (place_at whole.ends tag.client ≡ Some place)
client_of_tag profile whole tag is holds =
    let c = tag.client in
    let history = history_at whole.histories c in
    elim (found_or (place_at whole.ends c)) [
      | inl at ↦
          let none = no_end profile (slot_at whole.ends.server c) history
          (subst (λ (e : Option Place). IsClient profile (slot_at whole.ends.server c) e history) at (holds.facts.each c is.0)) in
          let some = is.1.some in
          let begun = is.1.begun in
          let nothing : length history.built ≡ 0 = ap (λ (h : History). length h.built) none in
          absurd (omega (arith, some, begun, nothing))
      | inr found ↦ found
    ]

-- what a datagram that was made does by its bytes it does by its tag
pub tag_is : (profile : Profile) (whole : Whole) (tag : Tag) (place : Place) → Cited profile → IsFor profile whole tag
    → place_at whole.ends tag.client ≡ Some place → Holds profile whole
    → gathered_of place.client.gathering tag.bytes ≡ tagged place.client.gathering tag.number (built_bytes profile (named whole.histories tag)) tag.index
tag_is profile whole tag place cited is found holds =
    let built = (history_at whole.histories tag.client).built in
    let messages = messages_of profile built in
    let had = has_client profile whole tag.client place is.0 found holds in
    let at = at_number profile built tag.number is.1.some in
    let keeps = had.1.keeps in
    let header : ℕ → Header = λ challenge. server_header (check_for profile.protocol challenge) in
    let from : place.client.gathering.form ≡ server_form (check_for profile.protocol had.0.challenge) =
    keeps.of_client.from ∙ ap (λ (challenge : ℕ). server_form (check_for profile.protocol challenge)) (sym keeps.challenge) in
    piece_is messages place.client.gathering (header had.0.challenge) (length built) had.0.sending tag cited.below.tags had.1.joined.of_client.gathers.front from (lit< tt) keeps.of_slot.sending
    (subst (λ (challenge : ℕ). IsPiece (header challenge) messages (length built) tag) (sym keeps.joined) is.1)
    ∙ ap (λ (m : List ℕ). tagged place.client.gathering tag.number m tag.index) at

-- and what is gathered then was begun
pub tag_gathers : (profile : Profile) (whole : Whole) (tag : Tag) (place : Place) → Cited profile → IsFor profile whole tag
    → place_at whole.ends tag.client ≡ Some place → Holds profile whole
    → Gathers (messages_of profile (history_at whole.histories tag.client).built) (length (history_at whole.histories tag.client).built)
    (tagged place.client.gathering tag.number (built_bytes profile (named whole.histories tag)) tag.index).gathering
tag_gathers profile whole tag place cited is found holds =
    let built = (history_at whole.histories tag.client).built in
    let messages = messages_of profile built in
    let had = has_client profile whole tag.client place is.0 found holds in
    subst (λ (m : List ℕ). Gathers messages (length built) (tagged place.client.gathering tag.number m tag.index).gathering) (at_number profile built tag.number is.1.some)
    (cited.below.gathers.piece messages (length built) place.client.gathering tag.number tag.index had.1.joined.of_client.gathers is.1.begun)

-- a message for a client that doesn't play has no base
pub waits_none : (profile : Profile) (challenge n : ℕ) (built : Built) → IsBuilt profile challenge n built → built.under ≡ None → built.base ≡ None
waits_none profile challenge n built is under =
    elim is.section [
      | inl one ↦ (one.waits (sym (ap (λ (b : Built). b.under) one.is) ∙ under)).1
      | inr made ↦ ap (λ (b : Built). b.base) made.is
    ]

-- what is known of a message that is named by a tag
pub record Named (profile : Profile) (whole : Whole) (c n : ℕ) (slot : SlotState) (client : ClientState) (built : Built) : Type 0 where
  pub is : IsBuilt profile client.challenge n built
  pub was : (telling : Telling) (one : BuildsSnapshot profile telling n built) → WasBuilt (history_at whole.histories c).built one.snapshot
  pub carries : (telling : Telling) (one : BuildsGame profile telling built) → Carries (history_at whole.histories c).built n one.game
  pub base : client.gathering.taken < n
      → IfSome built.base (KnownBase n (history_at whole.histories c).built (accepted_since (history_at whole.histories c).games (history_at whole.histories c).accepted))
  pub baselines : client.gathering.taken < n → IfSome built.under (λ game. client.state.baselines ≡ built.baselines)
  pub hears : client.gathering.taken < n → ClientHears slot client (history_at whole.histories c) n built

pub names : (profile : Profile) (whole : Whole) (tag : Tag) (slot : SlotState) (place : Place) → Cited profile → IsFor profile whole tag → Has profile whole tag.client slot place
    → Named profile whole tag.client tag.number slot place.client (named whole.histories tag)
names profile whole tag slot place cited is had =
    let c = tag.client in
    let history = history_at whole.histories c in
    let built = tag_was_built profile whole tag slot place is.1 had in
    let of_slot = subst (λ (challenge : ℕ). IsBuilt profile challenge tag.number (named whole.histories tag)) (sym had.keeps.challenge) built in
    let known = known_base profile slot place.client history tag.number is.1.some is.1.begun of_slot had.keeps.of_slot had.joined.asked in
    record {
      is = built;
      was = λ telling one. names_built profile whole tag is.1 telling one;
      carries = λ telling one. record { some = is.1.some; begun = is.1.begun; is = ap (λ (b : Built). b.message.section) one.is };
      base = λ newer. mapped_base whole.ends.server.map slot place.client history tag.number newer is.1.begun had.joined.mapped (waits_none profile place.client.challenge tag.number (named whole.histories tag) built) known;
      baselines = λ newer. mapped_baselines whole.ends.server.map slot place.client history tag.number newer is.1.begun had.joined.mapped;
      hears = λ newer. client_hears cited.below.windows.flow slot place.client history tag.number newer is.1.begun had.joined.commanded;
    }

-- by its bytes it is received as the value that was built
pub received_alike : (profile : Profile) (whole : Whole) (c n : ℕ) (slot : SlotState) (place : Place) (built : Built) → Cited profile → Has profile whole c slot place
    → Named profile whole c n slot place.client built → place.client.gathering.taken < n
    → receive_bytes place.client n (built_bytes profile built) ≡ Ok (receive_message place.client n built.message (plain_bytes profile built))
received_alike profile whole c n slot place built cited had named_is newer =
    let history = history_at whole.histories c in
    let takes = had.joined.of_client in
    let since = accepted_since history.games history.accepted in
    let were = since_were history.games history.accepted (WasBuilt history.built) takes.accepted in
    let hears = named_is.hears newer in
    cited.reads place.client n built named_is.is had.keeps.of_client.by had.keeps.of_client.applied (named_is.baselines newer) hears.takes hears.text
    (if_some_then built.base (KnownBase n history.built since) (HoldsThis place.client.state.held)
    (λ base known. holds_this cited.below.rings place.client.state.held history.built since base takes.stands were known.1) (named_is.base newer))

-- where nothing comes whole, the commands on their way are as they were
waits_so : (slot : SlotState) (client : ClientState) (history : History) (g : Gathering) → g.taken ≡ client.gathering.taken → IsApplied client.state → IsOutgoing client.issued → AreCommanded slot client history
    → TakesSo slot history g client.state client.issued history.client_executed
waits_so slot client history g taken applied window are =
    record {
      applied = applied;
      is = window;
      to_client = subst (λ (n : ℕ). Flow slot.issued client.state.executed history.server_commands history.client_executed (carried_built history.built) (acks_said history.said) slot.gathering.taken n)
          (sym taken) are.to_client;
      to_server = subst (λ (n : ℕ). Flow client.issued slot.executed history.client_commands history.server_executed (carried_said history.said) (acks_built history.built) n slot.gathering.taken) (sym taken) are.to_server;
    }

-- a client's window after a message
abbrev pub window_heard : ClientState → Built → OutgoingState
window_heard client built = (acknowledge_at client.issued built.message.ack).window

-- where nothing is noted
nothing_noted : (history : History) (n time : ℕ) (taken : Taken) (section : Told) → taken.accepted ≡ None → taken.heard ≡ [] → game_in taken.answer section ≡ None
    → with_taken history n section taken ≡ history
nothing_noted history n time taken section accepted heard game =
    ap (λ (g : Option Gamestate). with_game (with_heard history taken.accepted taken.heard) n taken.client.last_time g) game
    ∙ (ap (λ (s : Option Snapshot). with_heard history s taken.heard) accepted
    ∙ (ap (λ (commands : List Command). with_heard history None commands) heard
    ∙ ap (λ (texts : List (List ℕ)). record history { client_executed = texts }) (append-nil history.client_executed)))

-- what a client has once it executed the commands of a message
abbrev heard_state : AppliedState → List Command → AppliedState
heard_state state commands = hearing state commands

-- the world after what a client took, as if nothing were recorded
abbrev took_plain : Whole → ℕ → Place → ℕ → Told → Taken → Whole
took_plain whole c place n section taken =
    with_client_of whole c place taken.client (with_taken (history_at whole.histories c) n section taken) whole.sent

-- what arrives of a piece: what holds stays
pub holds_piece : (profile : Profile) (whole : Whole) (c datagram n : ℕ) (slot : SlotState) (place : Place) (took : Took) (built : Built) → Cited profile → c < places
    → n ≤ length (history_at whole.histories c).built → Has profile whole c slot place → PieceDoes place.client.gathering n (built_bytes profile built) took
    → Gathers (messages_of profile (history_at whole.histories c).built) (length (history_at whole.histories c).built) took.gathering
    → Named profile whole c n slot place.client built
    → Holds profile whole → Holds profile (took_plain whole c place n built.message.section (take_gathered place.client took (λ k. Ok (receive_message place.client k built.message (plain_bytes profile built)))))
holds_piece profile whole c datagram n slot place took built cited lt within had does gathers named_is holds =
    let g = took.gathering in
    let map = whole.ends.server.map in
    let history = history_at whole.histories c in
    let since = accepted_since history.games history.accepted in
    let state = place.client.state in
    let now = record place.client { gathering = g } in
    let read : ℕ → Read = λ k. Ok (receive_message place.client k built.message (plain_bytes profile built)) in
    let joined = had.joined.of_client in
    let mapped = had.joined.mapped in
    let window = had.keeps.of_client.window in
    elim does.either [
      | inl waits ↦
          let same = quiet_client now took.answer read waits.quiet in
          let noted = nothing_noted history n place.client.last_time (take_answer now took.answer read) built.message.section same.accepted same.heard (same.game built.message.section) in
          rw (noted, same.client_is) (Holds-taken profile whole c slot place g state place.client.message place.client.issued place.client.delta false history.games history.accepted history.client_executed lt had does.form refl refl
          (waits_so slot place.client history g waits.taken had.keeps.of_client.applied window had.joined.commanded)
          (TakesBuilt-gathered profile place.client history.built history.accepted since g waits.taken gathers joined) had.joined.asked
          (subst (λ (k : ℕ). AreMapped map (standing_of slot) state k place.client.last_time history.built history.games history.said history.accepted history.client_executed) (sym waits.taken) mapped) had.joined.since holds)
      | inr came ↦
          let newer = came.newer in
          let below = joined.below in
          let is = named_is.is in
          let taken = came.taken in
          let hears = named_is.hears newer in
          let after = window_heard place.client built in
          let plain = plain_bytes profile built in
          let commands = built.message.commands in
          let fresh = fresh_of state.executed.executed commands in
          let texts = texts_of fresh in
          let heard = history.client_executed ++ texts in
          let still : IsOutgoing after = cited.below.windows.stays.acknowledges place.client.issued built.message.ack window in
          let at_taken : (state : AppliedState) (games : List Played) (accepted : List Snapshot) (heard : List (List ℕ))
          → AreMapped map (standing_of slot) state n place.client.last_time history.built games history.said accepted heard
          → AreMapped map (standing_of slot) state g.taken place.client.last_time history.built games history.said accepted heard =
          λ state games accepted heard is.
          subst (λ (k : ℕ). AreMapped map (standing_of slot) state k place.client.last_time history.built games history.said accepted heard) (sym taken) is in
          let own = fresh_own slot place.client history n built had.keeps.of_slot.own hears in
          let to_server : Flow after slot.executed history.client_commands history.server_executed (carried_said history.said) (acks_built history.built) g.taken slot.gathering.taken =
          subst (λ (k : ℕ). Flow after slot.executed history.client_commands history.server_executed (carried_said history.said) (acks_built history.built) k slot.gathering.taken) (sym taken) hears.to_server in
          let to_client : Flow slot.issued (executes state.executed commands) history.server_commands heard (carried_built history.built) (acks_said history.said) slot.gathering.taken g.taken =
          subst (λ (k : ℕ). Flow slot.issued (executes state.executed commands) history.server_commands heard (carried_built history.built) (acks_said history.said) slot.gathering.taken k) (sym taken) hears.to_client in
          let applied_as : Application → Taken = λ application. applies now (record { message = plain; issued = after; application = application }) in
          let short = had.keeps.of_slot.sending.short in
          let applied = cited.below.stays.receives place.client n (built_bytes profile built) (receive_message place.client n built.message plain) (omega (arith, within, short)) had.keeps.of_client.applied window
          (received_alike profile whole c n slot place built cited had named_is newer) in
          let came_so : take_answer now took.answer read ≡ applied_as (apply_message state n built.message) = ap (λ (a : Gathered). take_answer now a read) came.answer in
          elim is.section [
            | inl one ↦
                let snapshot = one.snapshot in
                let number_is = one.number in
                let section = ap (λ (b : Built). b.message.section) one.is in
                let known = if_some_then built.base (KnownBase n history.built since) (λ base. IsNear n base × Contains since base) (λ base known. (known.0, known.2)) (named_is.base newer) in
                elim (applies_message cited.below.rings state since n built is.telling snapshot one.is joined.stands (omega (arith, newer, below)) known) [
                  | inl accepted ↦
                      let state' = record (hearing state commands) { number = n; held = accept_at state.held snapshot } in
                      let since_is = since_more history.games history.accepted snapshot mapped.has in
                      let takes = TakesBuilt-accepted cited.below.rings profile place.client history.built history.accepted since g state' plain after place.client.moves snapshot (taken ∙ sym number_is) gathers one.are.few (named_is.was is.telling one)
                      (omega (arith, newer, number_is)) refl joined in
                      subst (λ (t : Taken). Holds profile (took_plain whole c place n built.message.section t)) (sym (came_so ∙ ap applied_as accepted.1))
                      (subst (λ (s : Told). Holds profile (took_plain whole c place n s (applied_as (heard_with state commands (accepts (hearing state commands) n (number_of built.base) snapshot))))) (sym section)
                      (Holds-taken profile whole c slot place g state' plain after true false history.games (history.accepted ++ snapshot ∷ []) heard lt had does.form refl refl
                      (record { applied = subst (λ (a : Application). IsApplied a.state) accepted.1 applied; is = still; to_client = to_client; to_server = to_server })
                      (subst (λ (s : List Snapshot). TakesBuilt profile (taking.client_took place.client g state' plain after true false) history.built (history.accepted ++ snapshot ∷ []) s) (sym since_is) takes)
                      (AreAsked-accepted slot history.said history.built history.accepted snapshot had.joined.asked)
                      (at_taken state' history.games (history.accepted ++ snapshot ∷ []) heard (mapped_accepted map slot place.client history n commands snapshot (accept_at state.held snapshot) newer number_is own mapped))
                      had.joined.since holds))
                  | inr skipped ↦
                      let state' = record (hearing state commands) { number = n } in
                      subst (λ (t : Taken). Holds profile (took_plain whole c place n built.message.section t)) (sym (came_so ∙ ap applied_as skipped.2))
                      (subst (λ (s : Told). Holds profile (took_plain whole c place n s (applied_as (heard_with state commands (passes (hearing state commands) n (Skipped (number_of built.base) (EntitiesGone skipped.0))))))) (sym section)
                      (Holds-taken profile whole c slot place g state' plain after false false history.games history.accepted heard lt had does.form refl refl
                      (record { applied = subst (λ (a : Application). IsApplied a.state) skipped.2 applied; is = still; to_client = to_client; to_server = to_server })
                      (TakesBuilt-passed profile place.client history.built history.accepted since g state' plain after place.client.moves (omega (arith, taken, newer)) gathers refl joined) had.joined.asked
                      (at_taken state' history.games history.accepted heard (mapped_passed map slot place.client history n commands state.held newer own mapped)) had.joined.since holds))
                ]
            | inr made ↦
                let game = made.game in
                let section = ap (λ (b : Built). b.message.section) made.is in
                let last : (executes state.executed commands).executed ≡ game.command =
                hears.last ∙ (ap (λ (b : Built). b.last) made.is ∙ sym made.last) in
                let jumped : jump_at (executes state.executed commands) game.command ≡ executes state.executed commands = jump_same (executes state.executed commands) game.command last in
                let state' = record (after_gamestate (hearing state commands) game) { number = n } in
                let played : Played = record { number = n; game = game; accepted = length history.accepted; executed = length heard; time = place.client.last_time } in
                let games = history.games ++ played ∷ [] in
                let since_is : accepted_since games history.accepted ≡ [] = since_none history.games history.accepted played refl in
                let takes = TakesBuilt-started cited.below.rings profile place.client history.built history.accepted since g state' plain after [] (omega (arith, taken, newer)) gathers (subst (λ (k : ℕ). 512 ≤ k) (sym had.keeps.of_client.ring) cited.ring) refl joined in
                subst (λ (t : Taken). Holds profile (took_plain whole c place n built.message.section t)) (sym (came_so ∙ ap applied_as (applies_game_message state n built is.telling game made.is)))
                (subst (λ (s : Told). Holds profile (took_plain whole c place n s (applied_as (heard_with state commands (applies_game (hearing state commands) n game))))) (sym section)
                (Holds-taken profile whole c slot place g state' plain after false true games history.accepted heard lt had does.form refl refl
                (record {
                  applied = subst (λ (a : Application). IsApplied a.state) (applies_game_message state n built is.telling game made.is) applied;
                  is = still;
                  to_client = subst (λ (i : IncomingState). Flow slot.issued i history.server_commands heard (carried_built history.built) (acks_said history.said) slot.gathering.taken g.taken) (sym jumped) to_client;
                  to_server = to_server;
                })
                (subst (λ (s : List Snapshot). TakesBuilt profile (taking.client_took place.client g state' plain after false true) history.built history.accepted s) (sym since_is) takes) had.joined.asked
                (at_taken state' games history.accepted heard (mapped_started profile map slot place.client history n commands game newer (named_is.carries is.telling made) made.are joined.most mapped))
                (AreSince-started history.games played) holds))
          ]
    ]

pub delivered_to : (profile : Profile) (whole : Whole) (number : ℕ) (tag : Tag) (found : Option Place) → Cited profile
    → IsFor profile whole tag → place_at whole.ends tag.client ≡ found → Holds profile whole
    → Agree profile (kept_ends (kept_of profile whole) (client_takes whole.ends tag.client (fronts.Deliver number) tag.bytes found)) (to_client profile whole number tag found)
delivered_to profile whole number tag None cited is at holds = record { same = refl; holds = holds }
delivered_to profile whole number tag (Some place) cited is at holds =
    let client = place.client in
    let built = named whole.histories tag in
    let had = has_client profile whole tag.client place is.0 at holds in
    let named_is = names profile whole tag had.0 place cited is had.1 in
    let took = tagged client.gathering tag.number (built_bytes profile built) tag.index in
    let does = cited.below.does client.gathering tag.number (built_bytes profile built) tag.index in
    record {
      same = ap (λ (t : Taken). kept_ends (kept_of profile whole) (by_ends.client_took whole.ends tag.client (fronts.Deliver number) place t))
          (taken_by_bytes client tag.bytes took had.1.joined.of_client.legible (tag_is profile whole tag place cited is at holds)
          ∙ taken_alike profile client took tag.number built (received_alike profile whole tag.client tag.number had.0 place built cited had.1 named_is) does);
      holds = with_recording profile whole tag.client place _ _ _ whole.sent is.0 holds
          (holds_piece profile whole tag.client number tag.number had.0 place took built cited is.0 is.1.begun had.1 does (tag_gathers profile whole tag place cited is at holds) named_is holds);
    }

-- ---- delivering to the server

abbrev pub CameRead : Type 0
CameRead = Result Came ClientIllegible

-- where nothing came whole, nothing is read
pub quiet_heard : (map : MapState) (slot : SlotState) (c : ℕ) (answer : Gathered) (read other : ℕ → CameRead) → IsQuiet answer → by_slot.take_answer map slot c answer read ≡ by_slot.take_answer map slot c answer other
quiet_heard map slot c gathered.Partial read other is = refl
quiet_heard map slot c gathered.Old read other is = refl
quiet_heard map slot c gathered.OutOfOrder read other is = refl
quiet_heard map slot c answer read other is = absurd is

-- the slot is as it was, and executes and runs nothing
pub record Idle (slot : SlotState) (taken : by_slot.SlotTaken) : Type 0 where
  pub slot_is : taken.slot ≡ slot
  pub heard : taken.heard ≡ by_slot.nothing_heard slot.owed

pub quiet_slot : (map : MapState) (slot : SlotState) (c : ℕ) (answer : Gathered) (read : ℕ → CameRead) → IsQuiet answer → Idle slot (by_slot.take_answer map slot c answer read)
quiet_slot map slot c gathered.Partial read is = record { slot_is = refl; heard = refl }
quiet_slot map slot c gathered.Old read is = record { slot_is = refl; heard = refl }
quiet_slot map slot c gathered.OutOfOrder read is = record { slot_is = refl; heard = refl }
quiet_slot map slot c answer read is = absurd is

-- what comes whole is read as what the message that was said is to the map
pub heard_alike : (profile : Profile) (map : MapState) (slot : SlotState) (c : ℕ) (took : Took) (number : ℕ) (said : Said)
    → (slot.gathering.taken < number → said_by profile map slot (said_bytes profile said) ≡ Ok (came_as map said.message))
    → PieceDoes slot.gathering number (said_bytes profile said) took
    → (from : Address)
    → by_slot.take_gathered map (record slot { address = from }) c took (λ k. said_by profile map slot took.message)
    ≡ by_slot.take_gathered map (record slot { address = from }) c took (λ k. Ok (came_as map said.message))
heard_alike profile map slot c took number said hears_back does from =
    let now = record slot { address = from; gathering = took.gathering } in
    elim does.either [
      | inl waits ↦ quiet_heard map now c took.answer (λ k. said_by profile map slot took.message) (λ k. Ok (came_as map said.message)) waits.quiet
      | inr came ↦
          let read : said_by profile map slot took.message ≡ Ok (came_as map said.message) = ap (λ (m : List ℕ). said_by profile map slot m) came.message_is ∙ hears_back came.newer in
          ap (λ (r : CameRead). by_slot.take_answer map now c took.answer (λ k. r)) read
    ]

-- a tag of a client's datagram
abbrev pub IsOf : Profile → Whole → Tag → Address → Type 0
IsOf profile whole tag from =
    (tag.client < places) × (from.host ≡ (history_at whole.histories tag.client).host)
    × IsPiece (client_header (check_for profile.protocol (history_at whole.histories tag.client).challenge) (history_at whole.histories tag.client).qport) (messages_said profile (history_at whole.histories tag.client).said) (length (history_at whole.histories tag.client).said) tag

-- the server takes it by what its bytes do to its client's slot
pub heard_by_bytes : (profile : Profile) (whole : Whole) (tag : Tag) (from : Address) (slot : SlotState) → Cited profile → IsOf profile whole tag from
    → slot_at whole.ends.server tag.client ≡ Some slot → Holds profile whole
    → hears.take_at whole.ends.server from tag.bytes ≡ hears.taken_at whole.ends.server tag.client (by_slot.take_slot profile whole.ends.server.map tag.client from tag.bytes slot)
unfolding hears.take_at
heard_by_bytes profile whole tag from slot cited is at holds =
    let server = whole.ends.server in
    let c = tag.client in
    let history = history_at whole.histories c in
    let had = has_slot profile whole c slot is.0 at holds in
    let keeps = had.1.keeps in
    let messages = messages_said profile history.said in
    let some = is.2.some in
    let begun = is.2.begun in
    let short = keeps.of_client.sending.short in
    let header = client_header (check_for profile.protocol history.challenge) history.qport in
    let checked : is_some header.form.check ≡ is_checked server.profile.protocol =
    checked_so (is_checked profile.protocol) history.challenge ∙ ap (λ (p : Profile). is_checked p.protocol) (sym holds.facts.by) in
    let told : qport_of (is_checked server.profile.protocol) tag.bytes ≡ Ok history.qport =
    ap (λ (b : Bool). qport_of b tag.bytes) (sym checked)
    ∙ ap (qport_of (is_some header.form.check)) is.2.bytes
    ∙ cited.below.qport header tag.number tag.index (messages tag.number) refl keeps.of_client.fits (omega (arith, begun, short))
    (keeps.of_client.sending.sendable tag.number is.2.some is.2.begun) is.2.piece in
    let found : sender_of server from.host history.qport ≡ Some c =
    ap (λ (h : ℕ). sender_of server h history.qport) (is.1 ∙ sym keeps.of_slot.host)
    ∙ (ap (λ (q : ℕ). sender_of server slot.address.host q) (sym keeps.of_slot.qport) ∙ holds.facts.found c slot at) in
    ap (λ (r : Result ℕ NoQport). hears.take_headed server from tag.bytes r) told
    ∙ (ap (λ (o : Option ℕ). hears.take_from server from tag.bytes o) found
    ∙ (ap (λ (o : Option SlotState). hears.take_by server c from tag.bytes o) at
    ∙ ap (λ (p : Profile). hears.taken_at server c (by_slot.take_slot p server.map c from tag.bytes slot)) holds.facts.by))

-- after a message, what a slot writes against was accepted, or is none
asked_after : (accepted : List Snapshot) (before : ℕ) (message : client_told.Message) → (before ≡ 0) ⊎ WasAccepted accepted before
    → (message.delta ≡ true → WasAccepted accepted message.acknowledged)
    → (delta_after before message ≡ 0) ⊎ WasAccepted accepted (delta_after before message)
asked_after accepted before message was asks = with_moves message.moves
  where
    if_asked : (delta : Bool) → message.delta ≡ delta → ((if delta then message.acknowledged else 0) ≡ 0) ⊎ WasAccepted accepted (if delta then message.acknowledged else 0)
    if_asked true so = inr (asks so)
    if_asked false so = inl refl

    with_moves : (moves : List Move) → (asked_with before message moves ≡ 0) ⊎ WasAccepted accepted (asked_with before message moves)
    with_moves [] = was
    with_moves (one ∷ moves) = if_asked message.delta refl

asked_playing : (accepted : List Snapshot) (slot : SlotState) (message : client_told.Message) → (slot.delta ≡ 0) ⊎ WasAccepted accepted slot.delta
    → (message.delta ≡ true → WasAccepted accepted message.acknowledged)
    → ((goes_on slot message message.moves).delta ≡ 0) ⊎ WasAccepted accepted (goes_on slot message message.moves).delta
asked_playing accepted slot message was asks = with_moves message.moves
  where
    at_stage : (one : Move) (others : List Move) (stage : ClientStage) → ((moves_on slot message one others stage).delta ≡ 0) ⊎ WasAccepted accepted (moves_on slot message one others stage).delta
    at_stage one others Connected = inl refl
    at_stage one others (Primed game) = inl refl
    at_stage one others (Active game) = asked_after accepted slot.delta message was asks

    with_moves : (moves : List Move) → ((goes_on slot message moves).delta ≡ 0) ⊎ WasAccepted accepted (goes_on slot message moves).delta
    with_moves [] = was
    with_moves (one ∷ others) = at_stage one others slot.stage

-- where nothing is run, what was run stays
none_run : (profile : Profile) (has : SlotState) (history : History) → KeepsSlot profile has history.qport history.host history.built history.run history.server_commands
    → KeepsSlot profile has history.qport history.host history.built (history.run ++ []) history.server_commands
none_run profile has history keeps = subst (λ (run : List Move). KeepsSlot profile has history.qport history.host history.built run history.server_commands) (sym (append-nil history.run)) keeps

-- where nothing comes whole, the commands on their way are as they were
hears_nothing : (slot : SlotState) (client : ClientState) (history : History) (g : Gathering) → g.taken ≡ slot.gathering.taken → AreCommanded slot client history
    → HearsSo client history g slot.issued slot.executed []
hears_nothing slot client history g taken are =
    record {
      to_client = subst (λ (n : ℕ). Flow slot.issued client.state.executed history.server_commands history.client_executed (carried_built history.built) (acks_said history.said) n client.gathering.taken) (sym taken) are.to_client;
      to_server = subst (λ (texts : List (List ℕ)). Flow client.issued slot.executed history.client_commands texts (carried_said history.said) (acks_built history.built) client.gathering.taken g.taken)
          (sym (append-nil history.server_executed))
          (subst (λ (n : ℕ). Flow client.issued slot.executed history.client_commands history.server_executed (carried_said history.said) (acks_built history.built) client.gathering.taken n) (sym taken) are.to_server);
    }

-- and where a message of another map comes, its acknowledgement is taken
hears_other : (slot : SlotState) (client : ClientState) (history : History) (g : Gathering) (n : ℕ) (said : Said) → g.taken ≡ n → SlotHears slot client history n said
    → HearsSo client history g (acknowledge_at slot.issued said.message.command).window slot.executed []
hears_other slot client history g n said taken heard =
    let after = (acknowledge_at slot.issued said.message.command).window in
    record {
      to_client = subst (λ (k : ℕ). Flow after client.state.executed history.server_commands history.client_executed (carried_built history.built) (acks_said history.said) k client.gathering.taken) (sym taken) heard.to_client;
      to_server = subst (λ (texts : List (List ℕ)). Flow client.issued slot.executed history.client_commands texts (carried_said history.said) (acks_built history.built) client.gathering.taken g.taken)
          (sym (append-nil history.server_executed))
          (subst (λ (k : ℕ). Flow client.issued slot.executed history.client_commands history.server_executed (carried_said history.said) (acks_built history.built) client.gathering.taken k) (sym taken) heard.passes);
    }

-- one of the map runs
hears_run : (slot : SlotState) (client : ClientState) (history : History) (g : Gathering) (n : ℕ) (said : Said) → g.taken ≡ n → SlotHears slot client history n said
    → HearsSo client history g (acknowledge_at slot.issued said.message.command).window (executes slot.executed said.message.commands) (fresh_of slot.executed.executed said.message.commands)
hears_run slot client history g n said taken heard =
    let after = (acknowledge_at slot.issued said.message.command).window in
    let executed = executes slot.executed said.message.commands in
    let texts = history.server_executed ++ texts_of (fresh_of slot.executed.executed said.message.commands) in
    record {
      to_client = subst (λ (k : ℕ). Flow after client.state.executed history.server_commands history.client_executed (carried_built history.built) (acks_said history.said) k client.gathering.taken) (sym taken) heard.to_client;
      to_server = subst (λ (k : ℕ). Flow client.issued executed history.client_commands texts (carried_said history.said) (acks_built history.built) client.gathering.taken k) (sym taken) heard.to_server;
    }

-- a message leaves no gap, and so it runs
pub runs_whole : (slot : SlotState) (c n : ℕ) (message : client_told.Message) → gap_in slot.executed.executed message.commands ≡ None
    → by_slot.run_message slot c n message ≡ by_slot.run_unless slot c n message None
runs_whole slot c n message none = ap (λ (gap : Option ℕ). by_slot.run_unless slot c n message gap) none

-- the moves of a message are at most as late as the last that was issued
said_most : (profile : Profile) (client : ClientState) (history : History) (moves : List Move) → KeepsClient profile client history.qport history.said history.issued history.client_commands
    → All (Contains history.issued) moves → All (λ (one : Move). one.time ≤ client.last_time) moves
said_most profile client history moves keeps were =
    subst (λ (most : ℕ). All (λ (one : Move). one.time ≤ most) moves) (sym keeps.last) (issued_most moves history.issued keeps.rise were)

-- what comes of a piece: what holds stays
pub holds_heard : (profile : Profile) (whole : Whole) (c number n : ℕ) (from : Address) (slot : SlotState) (place : Place) (took : Took) (said : Said) → Cited profile → c < places
    → Has profile whole c slot place → from.host ≡ slot.address.host → PieceDoes slot.gathering n (said_bytes profile said) took
    → Gathers (messages_said profile (history_at whole.histories c).said) (length (history_at whole.histories c).said) took.gathering
    → Contains (history_at whole.histories c).said said
    → All (Contains (history_at whole.histories c).issued) said.message.moves
    → (said.message.delta ≡ true → WasAccepted (history_at whole.histories c).accepted said.message.acknowledged)
    → (slot.gathering.taken < n → SlotHears slot place.client (history_at whole.histories c) n said) → Holds profile whole
    → Holds profile (server_took whole number c (hears.taken_at whole.ends.server c (by_slot.take_gathered whole.ends.server.map (record slot { address = from }) c took (λ k. Ok (came_as whole.ends.server.map said.message))))).whole
holds_heard profile whole c number n from slot place took said cited lt had host does gathers there were asks hears_so holds =
    let g = took.gathering in
    let map = whole.ends.server.map in
    let history = history_at whole.histories c in
    let now = record slot { address = from; gathering = g } in
    let message = said.message in
    let read : ℕ → CameRead = λ k. Ok (came_as map message) in
    let keeps = had.keeps.of_slot in
    let mapped = had.joined.mapped in
    let before = had.joined.asked.delta in
    let result = by_slot.take_answer map now c took.answer read in
    elim does.either [
      | inl waits ↦
          let same = quiet_slot map now c took.answer read waits.quiet in
          rw (same.slot_is, same.heard) (Holds-heard profile whole c slot slot place from g (by_slot.nothing_heard slot.owed) lt had host does.form refl refl refl gathers
          (none_run profile slot history keeps)
          (hears_nothing slot place.client history g waits.taken had.joined.commanded)
          (All-nil (Contains history.issued)) before mapped holds)
      | inr came ↦
          let heard = hears_so came.newer in
          let after = (acknowledge_at slot.issued message.command).window in
          let still : IsOutgoing after = cited.below.windows.stays.acknowledges slot.issued message.command keeps.window in
          let read_so : result ≡ by_slot.run_read map now c n (Ok (came_as map message)) = ap (λ (a : Gathered). by_slot.take_answer map now c a read) came.answer in
          elim (cases_Bool (is_other map message.id)) [
            | inl other ↦
                let owed = slot.owed || asks_game map slot (heads_of message) in
                let has = record slot { issued = after; owed = owed } in
                let ignored : result ≡ by_slot.ignores map now c (heads_of message) =
                read_so ∙ ap (λ (b : Bool). by_slot.run_read map now c n (Ok (if b then OfOther (heads_of message) else OfMap message))) other in
                subst (λ (t : by_slot.SlotTaken). Holds profile (server_took whole number c (hears.taken_at whole.ends.server c t)).whole) (sym ignored)
                (Holds-heard profile whole c slot has place from g (by_slot.nothing_heard owed) lt had host does.form refl refl refl gathers
                (none_run profile has history (KeepsSlot-acknowledged profile slot history.qport history.host history.built history.run history.server_commands after owed still keeps))
                (hears_other slot place.client history g n said came.taken heard)
                (All-nil (Contains history.issued)) before (mapped_other map slot place.client history said there other mapped) holds)
            | inr same ↦
                let executed = executes slot.executed message.commands in
                let playing = goes_on slot message message.moves in
                let has = record slot { stage = playing.stage; issued = after; executed = executed; delta = playing.delta; last_run = playing.last_run } in
                let on = mapped_runs map slot place.client history said there same (said_most profile place.client history said.message.moves had.keeps.of_client were) mapped in
                let rises = plays_on slot message history.run keeps.last keeps.rise on.late in
                let ran_so : result ≡ by_slot.run_unless now c n message None =
                read_so ∙ (ap (λ (b : Bool). by_slot.run_read map now c n (Ok (if b then OfOther (heads_of message) else OfMap message))) same ∙ runs_whole now c n message heard.gap) in
                subst (λ (t : by_slot.SlotTaken). Holds profile (server_took whole number c (hears.taken_at whole.ends.server c t)).whole) (sym ran_so)
                (Holds-heard profile whole c slot has place from g (record { commands = fresh_of slot.executed.executed message.commands; moves = record { items = playing.moves }; entered = playing.entered; owed = slot.owed })
                lt had host does.form refl refl refl gathers
                (KeepsSlot-ran profile slot history.qport history.host history.built history.run history.server_commands after executed playing still rises.0 rises.1 keeps)
                (hears_run slot place.client history g n said came.taken heard)
                (plays_are (Contains history.issued) slot message were) (asked_playing history.accepted slot message before asks) on.mapped holds)
          ]
    ]

-- what is known of a message that the tag of a client's datagram names
pub said_hears : (profile : Profile) (whole : Whole) (tag : Tag) (from : Address) (slot : SlotState) (place : Place) → Cited profile → IsOf profile whole tag from
    → Has profile whole tag.client slot place → slot.gathering.taken < tag.number
    → SlotHears slot place.client (history_at whole.histories tag.client) tag.number (said_under whole.histories tag)
said_hears profile whole tag from slot place cited is had newer =
    slot_hears cited.below.windows.flow slot place.client (history_at whole.histories tag.client) tag.number newer is.2.begun had.joined.commanded

-- its client has a slot
pub slot_of_tag : (profile : Profile) (whole : Whole) (tag : Tag) (from : Address) → IsOf profile whole tag from → Holds profile whole
    → (slot : SlotState) × (slot_at whole.ends.server tag.client ≡ Some slot)
slot_of_tag profile whole tag from is holds =
    let c = tag.client in
    let history = history_at whole.histories c in
    elim (found_or (slot_at whole.ends.server c)) [
      | inl at ↦
          let none = no_client profile (place_at whole.ends c) history
          (subst (λ (s : Option SlotState). IsClient profile s (place_at whole.ends c) history) at (holds.facts.each c is.0)) in
          let some = is.2.some in
          let begun = is.2.begun in
          let nothing : length history.said ≡ 0 = ap (λ (h : History). length h.said) none in
          absurd (omega (arith, some, begun, nothing))
      | inr found ↦ found
    ]

-- by its bytes a client's datagram does at its slot what it does by its tag
pub said_tag_is : (profile : Profile) (whole : Whole) (tag : Tag) (from : Address) (slot : SlotState) → Cited profile → IsOf profile whole tag from
    → slot_at whole.ends.server tag.client ≡ Some slot → Holds profile whole
    → gathered_of slot.gathering tag.bytes ≡ tagged slot.gathering tag.number (said_bytes profile (said_under whole.histories tag)) tag.index
said_tag_is profile whole tag from slot cited is at holds =
    let history = history_at whole.histories tag.client in
    let had = has_slot profile whole tag.client slot is.0 at holds in
    let keeps = had.1.keeps in
    let at_said = said_number profile history.said tag.number is.2.some in
    let header : ℕ → Header = λ challenge. client_header (check_for profile.protocol challenge) history.qport in
    let client = had.0.client in
    let from : slot.gathering.form ≡ client_form (check_for profile.protocol client.challenge) =
    keeps.of_slot.from ∙ ap (λ (challenge : ℕ). client_form (check_for profile.protocol challenge)) keeps.challenge in
    piece_is (messages_said profile history.said) slot.gathering (header client.challenge) (length history.said) client.sending tag cited.below.tags had.1.joined.of_slot.gathers.front from keeps.of_client.fits
    keeps.of_client.sending
    (subst (λ (challenge : ℕ). IsPiece (header challenge) (messages_said profile history.said) (length history.said) tag) (sym keeps.joined ∙ keeps.challenge) is.2)
    ∙ ap (λ (m : List ℕ). tagged slot.gathering tag.number m tag.index) at_said

pub heard_at : (profile : Profile) (whole : Whole) (number : ℕ) (tag : Tag) (from : Address) → Cited profile
    → IsOf profile whole tag from → Holds profile whole
    → Agree profile (kept_ends (kept_of profile whole) (server_takes whole.ends (fronts.Deliver number) from tag.bytes))
    (to_server profile whole number tag from (slot_at whole.ends.server tag.client))
heard_at profile whole number tag from cited is holds =
    let found = slot_of_tag profile whole tag from is holds in
    let slot = found.0 in
    let at = found.1 in
    let c = tag.client in
    let history = history_at whole.histories c in
    let said = said_under whole.histories tag in
    let had = has_slot profile whole c slot is.0 at holds in
    let keeps = had.1.keeps in
    let messages = messages_said profile history.said in
    let at_said = said_number profile history.said tag.number is.2.some in
    let some = is.2.some in
    let begun = is.2.begun in
    let within : tag.number - 1 < length history.said = omega (arith, some, begun) in
    let took = tagged slot.gathering tag.number (said_bytes profile said) tag.index in
    let does = cited.below.does slot.gathering tag.number (said_bytes profile said) tag.index in
    let takes = said_tag_is profile whole tag from slot cited is at holds in
    let hears_so = said_hears profile whole tag from slot had.0 cited is had.1 in
    let said_is : IsSaid profile slot.challenge said =
    subst (λ (challenge : ℕ). IsSaid profile challenge said) (sym keeps.challenge) (keeps.of_client.said (tag.number - 1) no_said within) in
    let map = whole.ends.server.map in
    let there : Contains history.said said = Contains-get_or history.said (tag.number - 1) no_said within in
    let carried = consecutive_issued said.message.moves history.issued (keeps.of_client.carried (tag.number - 1) no_said within) in
    let reads : slot.gathering.taken < tag.number → said_by profile map slot (said_bytes profile said) ≡ Ok (came_as map said.message) =
    λ newer. let heard = hears_so newer in cited.hears map slot said said_is heard.takes heard.text (λ same. (mapped_runs map slot had.0.client history said there same (said_most profile had.0.client history said.message.moves keeps.of_client carried) had.1.joined.mapped).feed) in
    let gathers : Gathers messages (length history.said) took.gathering =
    subst (λ (m : List ℕ). Gathers messages (length history.said) (tagged slot.gathering tag.number m tag.index).gathering) at_said
    (cited.below.gathers.piece messages (length history.said) slot.gathering tag.number tag.index had.1.joined.of_slot.gathers is.2.begun) in
    rw at (record {
      same = ap (λ (t : hears.Taken). kept_ends (kept_of profile whole) (by_ends.server_took whole.ends (fronts.Deliver number) t))
          (heard_by_bytes profile whole tag from slot cited is at holds
          ∙ (ap (λ (t : Took). hears.taken_at whole.ends.server c (by_slot.take_gathered map (record slot { address = from }) c t (λ k. said_by profile map slot t.message))) takes
          ∙ ap (λ (t : by_slot.SlotTaken). hears.taken_at whole.ends.server c t) (heard_alike profile map slot c took tag.number said reads does from)));
      holds = holds_heard profile whole c number tag.number from slot had.0 took said cited is.0 had.1 (is.1 ∙ sym keeps.of_slot.host) does gathers there
          carried
          (All-get_or (λ (s : Said). s.message.delta ≡ true → WasAccepted history.accepted s.message.acknowledged) history.said (tag.number - 1) no_said within had.1.joined.asked.asks) hears_so holds;
    })

-- ---- every delivery

-- a datagram that was made is one of a message that was begun
pub is_sent : (profile : Profile) (whole : Whole) (k : ℕ) (tag : Tag) → slice_get whole.sent k ≡ Some tag → Holds profile whole → IsSent profile whole.histories tag
is_sent profile whole k tag at holds =
    subst (λ (t : Tag). IsSent profile whole.histories t) (get_or_from_slice_get whole.sent k tag tag at)
    (holds.facts.sent k tag (slice_get_within whole.sent k tag at))

-- one for a client
pub is_for : (profile : Profile) (whole : Whole) (tag : Tag) → tag.direction ≡ ToClient → IsSent profile whole.histories tag → IsFor profile whole tag
is_for profile whole tag way is = (is.client, subst (λ (d : Direction). IsWay profile (history_at whole.histories tag.client) tag d) way is.way)

-- or of one
pub is_of_client : (profile : Profile) (whole : Whole) (tag : Tag) (from : Address) → tag.direction ≡ ToServer from → IsSent profile whole.histories tag → IsOf profile whole tag from
is_of_client profile whole tag from way is =
    let of : IsWay profile (history_at whole.histories tag.client) tag (ToServer from) = subst (λ (d : Direction). IsWay profile (history_at whole.histories tag.client) tag d) way is.way in
    (is.client, of.0, of.1)

pub arrives_at : (profile : Profile) (whole : Whole) (number : ℕ) (tag : Tag) (direction : Direction) → Cited profile → tag.direction ≡ direction → IsSent profile whole.histories tag
    → Holds profile whole
    → Agree profile (kept_ends (kept_of profile whole) (arrive_at whole.ends number (bytes_of tag) direction)) (arrive profile whole number tag direction)
arrives_at profile whole number tag ToClient cited way is holds =
    delivered_to profile whole number tag (place_at whole.ends tag.client) cited (is_for profile whole tag way is) refl holds
arrives_at profile whole number tag (ToServer from) cited way is holds =
    heard_at profile whole number tag from cited (is_of_client profile whole tag from way is) holds

pub sent_at : (profile : Profile) (whole : Whole) (number : ℕ) (found : Option Tag) → Cited profile
    → slice_get whole.sent (number - 1) ≡ found → Holds profile whole
    → Agree profile (kept_ends (kept_of profile whole) (deliver_at whole.ends number (option_map bytes_of found))) (deliver profile whole number found)
sent_at profile whole number None cited at holds = record { same = refl; holds = holds }
sent_at profile whole number (Some tag) cited at holds =
    arrives_at profile whole number tag tag.direction cited refl (is_sent profile whole (number - 1) tag at holds) holds

pub delivers_agree : (profile : Profile) (whole : Whole) (number : ℕ) → Cited profile → Holds profile whole
    → Agree profile (kept_ends (kept_of profile whole) (deliver_at whole.ends number (slice_get (map bytes_of whole.sent) (number - 1))))
    (deliver_as whole.foreign profile whole number (slice_get whole.sent (number - 1)))
delivers_agree profile whole number cited holds =
    subst (λ (b : Bool). Agree profile (kept_ends (kept_of profile whole) (deliver_at whole.ends number (slice_get (map bytes_of whole.sent) (number - 1)))) (deliver_as b profile whole number (slice_get whole.sent (number - 1)))) (sym holds.own)
    (rw (slice_get-map bytes_of whole.sent (number - 1)) (sent_at profile whole number (slice_get whole.sent (number - 1)) cited refl holds))
