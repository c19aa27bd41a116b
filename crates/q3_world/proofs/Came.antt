-- A datagram that arrives at either end keeps what holds.
use Rattle.std.proofs.Common.{◌≡◌, ℕ, ◌+◌, ◌-◌, ◌<◌, List, ◌++◌, length, Bool, refl, sym, ap, subst, ◌∙◌, arith}
use Rattle.std.specs.Prelude.{All, Contains, ◌⊎◌}
use Rattle.std.proofs.lemmas.List.Elements.{All-append}
use Rattle.q3_profile.specs.declared.profile.Profile.{Profile}
use Rattle.q3_io.specs.declared.address.Address.{Address}
use Rattle.q3_chan.specs.Checks.{check_for}
use Rattle.q3_chan.specs.Datagrams.{server_header}
use Rattle.q3_chan.specs.Gathering.{Gathering}
use Rattle.q3_chan.specs.Laws.{Gathers}
use Rattle.q3_text.specs.declared.text.Command.{Command}
use Rattle.q3_window.specs.Outgoing.{OutgoingState, IsOutgoing}
use Rattle.q3_window.specs.Incoming.{IncomingState}
use Rattle.q3_window.specs.Flow.{Flow}
use Rattle.q3_entity_ring.specs.Snapshot.{Snapshot}
use Rattle.q3_clstate.specs.Standing.{IsApplied}
use Rattle.q3_clstate.specs.State.{AppliedState}
use Rattle.q3_built.specs.Built.{Built, IsBuilt, BuildsSnapshot, Telling}
use Rattle.q3_slot.specs.Slot.{SlotState, asked}
use Rattle.q3_server.specs.Server.{places}
use Rattle.q3_client.specs.Client.{ClientState, moves_after}
use Rattle.q3_world.specs.declared.places.Place.{Place}
use Rattle.q3_world.specs.World.{Tag, History, Whole, no_message, history_at, built_at, texts_of, with_run, named, Played}
use Rattle.q3_world.specs.StandsFor.{messages_of, messages_said, KeepsSlot, IsPiece, snapshot_in, WasBuilt, WasAccepted, TakesBuilt, carried_built, acks_built, carried_said, acks_said, AreAsked}
use Rattle.q3_world.proofs.Growth.{HistoryGrows-beside}
use Rattle.q3_world.proofs.Clients.{KeepsSlot-came, KeepsClient-took}
use Rattle.q3_world.proofs.Joined.{AreAsked-ran}
use Rattle.q3_slot.specs.declared.taking.Heard.{Heard}
use Rattle.q3_slot.specs.declared.stage.ClientStage.{ClientStage}
use Rattle.q3_world.specs.Games.{AreSince, AreMapped, accepted_since, standing_of}
use Rattle.q3_world.proofs.Holding.{Holds, Has, sent_grows, with_server_of, Holds-slot, frames_stay, with_client_of, Holds-client}

-- ---- a datagram arrives at a client

-- the client after it
abbrev pub client_took : ClientState → Gathering → AppliedState → List ℕ → OutgoingState → Bool → Bool → ClientState
client_took client g state message window delta game = record client { gathering = g; state = state; message = message; issued = window; delta = delta; moves = moves_after game client.moves }

-- what a client's state, its window and its commands are after it
pub record TakesSo (slot : SlotState) (history : History) (g : Gathering) (state : AppliedState) (window : OutgoingState) (executed : List (List ℕ)) : Type 0 where
  pub applied : IsApplied state
  pub is : IsOutgoing window
  pub to_client : Flow slot.issued state.executed history.server_commands executed (carried_built history.built) (acks_said history.said)
      slot.gathering.taken g.taken
  pub to_server : Flow window slot.executed history.client_commands history.server_executed (carried_said history.said) (acks_built history.built) g.taken slot.gathering.taken

-- what was noted of it
abbrev pub took_noted : History → List Played → List Snapshot → List (List ℕ) → History
took_noted history games accepted executed = record history { games = games; accepted = accepted; client_executed = executed }

pub Holds-taken : (profile : Profile) (whole : Whole) (c : ℕ) (slot : SlotState) (place : Place) (g : Gathering) (state : AppliedState) (message : List ℕ) (window : OutgoingState) (delta game : Bool)
    (games : List Played) (accepted : List Snapshot) (executed : List (List ℕ)) → c < places
    → Has profile whole c slot place → g.form ≡ place.client.gathering.form → state.profile ≡ place.client.state.profile → state.held.ring ≡ place.client.state.held.ring
    → TakesSo slot (history_at whole.histories c) g state window executed
    → TakesBuilt profile (client_took place.client g state message window delta game) (history_at whole.histories c).built accepted (accepted_since games accepted)
    → AreAsked slot (history_at whole.histories c).said (history_at whole.histories c).built accepted
    → AreMapped whole.ends.server.map (standing_of slot) state g.taken place.client.last_time (history_at whole.histories c).built games (history_at whole.histories c).said accepted executed
    → AreSince games (moves_after game place.client.moves) → Holds profile whole
    → Holds profile (with_client_of whole c place (client_took place.client g state message window delta game) (took_noted (history_at whole.histories c) games accepted executed) whole.sent)
Holds-taken profile whole c slot place g state message window delta game games accepted executed lt had side by ring so takes asked mapped later holds =
    let history = history_at whole.histories c in
    let noted = took_noted history games accepted executed in
    let keeps = had.keeps in
    let joined = had.joined in
    let grows = HistoryGrows-beside history noted refl refl refl refl refl in
    Holds-client profile whole c slot place (client_took place.client g state message window delta game) noted whole.sent lt had
    (record {
      host = refl;
      qport = refl;
      map_is = holds.facts.map;
      stays = λ s e h joined. joined;
      grows = grows;
      keeps = record {
        of_slot = keeps.of_slot;
        of_client = KeepsClient-took profile place.client history.qport history.said history.issued history.client_commands g state message window delta game so.applied so.is side by ring keeps.of_client;
        challenge = keeps.challenge;
        joined = keeps.joined;
        host = keeps.host;
      };
      joined = record { of_client = takes; of_slot = joined.of_slot; asked = asked; commanded = record { to_client = so.to_client; to_server = so.to_server }; mapped = mapped; since = later };
      sent = sent_grows profile whole c noted lt grows holds;
      kept = frames_stay profile whole c noted lt refl holds;
    }) holds

-- ---- a client's datagram arrives at its slot

-- what a slot has once it took a message
abbrev pub slot_has : SlotState → OutgoingState → IncomingState → ClientStage → Bool → ℕ → ℕ → SlotState
slot_has slot window executed stage owed delta last =
    record slot { issued = window; executed = executed; stage = stage; owed = owed; delta = delta; last_run = last }

-- the slot after it
abbrev pub slot_heard : SlotState → Address → Gathering → SlotState
slot_heard slot from g = record slot { address = from; gathering = g }

-- what a slot's window and its commands are after it
pub record HearsSo (client : ClientState) (history : History) (g : Gathering) (window : OutgoingState) (executed : IncomingState) (commands : List Command) : Type 0 where
  pub to_client : Flow window client.state.executed history.server_commands history.client_executed (carried_built history.built) (acks_said history.said) g.taken client.gathering.taken
  pub to_server : Flow client.issued executed history.client_commands (history.server_executed ++ texts_of commands) (carried_said history.said) (acks_built history.built)
      client.gathering.taken g.taken

-- an acknowledgement was taken, commands were executed, and moves were run, each of which was issued; and a snapshot may be asked for
-- that was accepted
pub Holds-heard : (profile : Profile) (whole : Whole) (c : ℕ) (slot has : SlotState) (place : Place) (from : Address) (g : Gathering) (ran : Heard) → c < places
    → Has profile whole c slot place → from.host ≡ slot.address.host → g.form ≡ slot.gathering.form → has.gathering ≡ slot.gathering → has.qport ≡ slot.qport → has.challenge ≡ slot.challenge
    → Gathers (messages_said profile (history_at whole.histories c).said) (length (history_at whole.histories c).said) g
    → KeepsSlot profile has (history_at whole.histories c).qport (history_at whole.histories c).host
    (history_at whole.histories c).built ((history_at whole.histories c).run ++ ran.moves.items) (history_at whole.histories c).server_commands
    → HearsSo place.client (history_at whole.histories c) g has.issued has.executed ran.commands
    → All (Contains (history_at whole.histories c).issued) ran.moves.items → (has.delta ≡ 0) ⊎ WasAccepted (history_at whole.histories c).accepted has.delta
    → AreMapped whole.ends.server.map (standing_of has) place.client.state place.client.gathering.taken place.client.last_time (history_at whole.histories c).built (history_at whole.histories c).games
    (history_at whole.histories c).said (history_at whole.histories c).accepted (history_at whole.histories c).client_executed → Holds profile whole
    → Holds profile (with_server_of whole c (slot_heard has from g) whole.ends.server.map whole.ends.server.frames (with_run (history_at whole.histories c) ran) whole.sent)
Holds-heard profile whole c slot has place from g ran lt had host side same_gathering same_qport same_challenge gathers ran_so so were asks mapped holds =
    let history = history_at whole.histories c in
    let next = slot_heard has from g in
    let noted = with_run history ran in
    let keeps = had.keeps in
    let joined = had.joined in
    let grows = HistoryGrows-beside history noted refl refl refl refl refl in
    Holds-slot profile whole c slot next place whole.ends.server.map whole.ends.server.frames noted whole.sent lt had
    (record {
      host = host;
      qport = same_qport;
      map_is = holds.facts.map;
      stays = λ s e h joined. joined;
      grows = grows;
      keeps = record {
        of_slot = KeepsSlot-came profile has history.qport history.host history.built (history.run ++ ran.moves.items)
            history.server_commands from g (host ∙ keeps.of_slot.host) (side ∙ ap (λ (g : Gathering). g.form) (sym same_gathering)) ran_so;
        of_client = keeps.of_client;
        challenge = same_challenge ∙ keeps.challenge;
        joined = same_challenge ∙ keeps.joined;
        host = keeps.host;
      };
      joined = record {
        of_client = joined.of_client;
        of_slot = record { gathers = gathers; ran = All-append (Contains history.issued) history.run ran.moves.items joined.of_slot.ran were };
        asked = AreAsked-ran slot next history.said history.built history.accepted asks joined.asked;
        commanded = record { to_client = so.to_client; to_server = so.to_server };
        mapped = mapped;
        since = joined.since;
      };
      sent = sent_grows profile whole c noted lt grows holds;
      kept = frames_stay profile whole c noted lt refl holds;
    }) holds

-- ---- what a tag names

-- the message that a server's tag names was built
pub tag_was_built : (profile : Profile) (whole : Whole) (tag : Tag) (slot : SlotState) (place : Place)
    → IsPiece (server_header (check_for profile.protocol (history_at whole.histories tag.client).challenge)) (messages_of profile (history_at whole.histories tag.client).built) (length (history_at whole.histories tag.client).built) tag
    → Has profile whole tag.client slot place → IsBuilt profile place.client.challenge tag.number (named whole.histories tag)
tag_was_built profile whole tag slot place is had =
    let some = is.some in
    let begun = is.begun in
    let place : tag.number - 1 + 1 ≡ tag.number = omega arith in
    subst (λ (challenge : ℕ). IsBuilt profile challenge tag.number (named whole.histories tag)) had.keeps.challenge
    (subst (λ (n : ℕ). IsBuilt profile slot.challenge n (named whole.histories tag)) place (had.keeps.of_slot.built (tag.number - 1) no_message (omega arith)))

-- and so the snapshot that it names is one that was built
pub names_built : (profile : Profile) (whole : Whole) (tag : Tag)
    → IsPiece (server_header (check_for profile.protocol (history_at whole.histories tag.client).challenge)) (messages_of profile (history_at whole.histories tag.client).built) (length (history_at whole.histories tag.client).built) tag
    → (telling : Telling) (built : BuildsSnapshot profile telling tag.number (named whole.histories tag)) → WasBuilt (history_at whole.histories tag.client).built built.snapshot
names_built profile whole tag is telling built =
    let number = built.number in
    let some = is.some in
    let begun = is.begun in (
      omega arith,
      omega arith,
      ap (λ (n : ℕ). snapshot_in (built_at (history_at whole.histories tag.client).built n).message.section) number
          ∙ ap (λ (b : Built). snapshot_in b.message.section) built.is,
    )
