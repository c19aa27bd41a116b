-- What follows for a client stays so with every event.
use Rattle.std.proofs.Common.{Bool, List, None, Ok, Option, Some, [], arith, get_or, length, refl, subst, ℕ, ◌+◌, ◌-◌, ◌<◌, ◌∙◌, ◌≡◌, sym}
use Rattle.std.specs.Prelude.{Err, IfSome, Result, if◌then◌else◌, nat_le, nat_lt, not, slice_get, slice_set}
use Rattle.std.proofs.lemmas.Bool.{cond_both}
use Rattle.std.proofs.lemmas.Option.{get_or_from_slice_get, slice_get_within}
use Rattle.q3_bits.specs.Bits.{message_bytes, message_length}
use Rattle.q3_chan.specs.Datagrams.{longest_message, sequence_end}
use Rattle.q3_chan.specs.Laws.{TaggedDoes}
use Rattle.q3_chan.specs.Keys.{client_scrambled}
use Rattle.q3_chan.specs.Sending.{UnderWay, started}
use Rattle.q3_chan.specs.Tags.{tagged}
use Rattle.q3_client.specs.Client.{ClientState, receive_message, take_gathered, type_at}
use Rattle.q3_client.specs.Moves.{Handed as MoveHanded, add_move_at, is_issuable, issue}
use Rattle.q3_client.specs.Sending as speaks
use Rattle.q3_client.specs.Sending.{Said, is_unclear as is_said_unclear, next_message, next_said, said_bits, said_bytes}
use Rattle.q3_client.specs.declared.client.MoveError.{MoveError}
use Rattle.q3_client.specs.declared.client.MoveError.TheVariants.{NoGame, NotLater, Range as MoveRange}
use Rattle.q3_client.specs.declared.client.Sent.TheVariants as answered_sent
use Rattle.q3_clmsg.specs.declared.moves.Move.{Move}
use Rattle.q3_io.specs.declared.address.Address.{Address}
use Rattle.q3_profile.specs.declared.profile.Profile.{Profile}
use Rattle.q3_schedules.specs.Schedules.{IsScheduled}
use Rattle.q3_script.specs.declared.event.Event.{Event}
use Rattle.q3_script.specs.declared.event.Event.TheVariants as events
use Rattle.q3_server.specs.Server.{emit_at, emit_from, places, slot_at}
use Rattle.q3_server.specs.Taking.{taken_at, unmoved}
use Rattle.q3_built.specs.Built.{Built, IsBuilt, built_bytes, plain_bytes}
use Rattle.q3_slot.specs.Emitting.{emit_slot}
use Rattle.q3_slot.specs.Slot.{SlotState, with_area, with_player}
use Rattle.q3_slot.specs.Taking as by_slot
use Rattle.q3_slot.specs.declared.taking.ServerTook.TheVariants.{Stranger}
use Rattle.q3_svmsg.specs.declared.error.Illegible.{Illegible}
use Rattle.q3_window.specs.Flow.{FlowLaws}
use Rattle.q3_window.specs.Outgoing.{issued_of}
use Rattle.q3_window.specs.declared.outgoing.WindowFull.{WindowFull}
use Rattle.q3_report.specs.declared.answer.HandedIn.TheVariants as answers
use Rattle.q3_report.specs.declared.answer.BaselineRefused.TheVariants as unset
use Rattle.q3_report.specs.Answers.{Given}
use Rattle.q3_ends.specs.AtServer as at_server
use Rattle.q3_ends.specs.AtServer.{server_line}
use Rattle.q3_ends.specs.AtClient.{moved, typed}
use Rattle.q3_ends.specs.Recording.{asking, note_taken}
use Rattle.q3_world.specs.declared.places.Place.{Place}
use Rattle.q3_world.specs.Layers.{ConfigLaws}
use Rattle.q3_world.specs.Ends.{Ends, client_step_of, line_of, place_at}
use Rattle.q3_world.proofs.OnePlace.{show_stays}
use Rattle.q3_schedules.specs.Schedules.{SaysNoChange}
use Rattle.q3_world.specs.StandsFor.{IsSent, IsWay, acks_said, carried_built}
use Rattle.q3_world.specs.World.{History, Tag, Whole, arrive, deliver, deliver_as, history_at, named, no_message, said_under, send, serve, step, to_client, to_server, with_built, with_history, with_issued, with_run, with_said, with_taken, with_typed}
use Rattle.q3_world.specs.declared.made.Direction.{Direction}
use Rattle.q3_world.specs.declared.made.Direction.TheVariants.{ToClient, ToServer}
use Rattle.q3_world.proofs.Holding.{Holds, has_client, has_slot}
use Rattle.q3_schedules.proofs.StringsSince.{follows_built}
use Rattle.q3_schedules.proofs.FollowsGiven.{At, Of, both_changed, configs, gives, history_changed, in_range_follows, joins, baselines, maps, noting, ports, records, same_map, same_state, says, state_in, stops, unnoted}
use Rattle.q3_schedules.proofs.FollowsHeard.{BeginsSo, TellsOf, emits_so, hears_it, take_follows}

-- ---- where a state stays

-- a move that is issued leaves it
move_stays : (client : ClientState) (one : Move) → (add_move_at client one).client.state ≡ client.state
move_stays client one =
    cond_both (not client.state.has_game) (record { client = client; answer = Err NoGame })
    (if nat_le one.time client.last_time then record { client = client; answer = Err (NotLater client.last_time) } else if is_issuable one then record { client = issue client one; answer = Ok tt }
    else record { client = client; answer = Err MoveRange })
    (λ (handed : MoveHanded MoveError). handed.client.state ≡ client.state) (λ e. refl)
    (λ e. cond_both (nat_le one.time client.last_time) (record { client = client; answer = Err (NotLater client.last_time) })
    (if is_issuable one then record { client = issue client one; answer = Ok tt } else record { client = client; answer = Err MoveRange })
    (λ (handed : MoveHanded MoveError). handed.client.state ≡ client.state) (λ e. refl)
    (λ e. cond_both (is_issuable one) (record { client = issue client one; answer = Ok tt }) (record { client = client; answer = Err MoveRange })
    (λ (handed : MoveHanded MoveError). handed.client.state ≡ client.state) (λ e. refl) (λ e. refl)))

abbrev Leaves : ClientState → speaks.Emission → Type 0
Leaves client emission = emission.client.state ≡ client.state

bits_stay : (client : ClientState) (said : Said) (bits : List Bool) → Leaves client (speaks.emit_bits client said bits)
bits_stay client said bits =
    cond_both (nat_lt longest_message (message_length (length bits))) (speaks.nothing client answered_sent.Overlong)
    (speaks.hand_out (record client { sending = started client.sending (client_scrambled said.key (message_bytes bits)) }) 0
    (answered_sent.Message (client.sending.number + 1) (message_length (length bits))) (Some said))
    (Leaves client) (λ e. refl) (λ e. refl)

left_stays : (client : ClientState) (left : Option UnderWay) → Leaves client (speaks.emit_left client left)
left_stays client None =
    let bits = said_bits client.state.profile (next_said client) in
    cond_both (nat_le sequence_end (client.sending.number + 1)) (speaks.nothing client answered_sent.SequenceEnd)
    (if is_said_unclear client.state.profile (next_message client) then speaks.nothing client answered_sent.Unclear else speaks.emit_bits client (next_said client) bits)
    (Leaves client) (λ e. refl)
    (λ e. cond_both (is_said_unclear client.state.profile (next_message client)) (speaks.nothing client answered_sent.Unclear) (speaks.emit_bits client (next_said client) bits)
    (Leaves client) (λ e. refl) (λ e. bits_stay client (next_said client) bits))
left_stays client (Some left) = refl

unless_stays : (client : ClientState) (dropped : Option Illegible) → Leaves client (speaks.emit_unless client dropped)
unless_stays client None = left_stays client client.sending.under_way
unless_stays client (Some cause) = refl

-- and so does a message that is begun
send_stays : (client : ClientState) → Leaves client (speaks.emit_at client)
unfolding speaks.emit_at
send_stays client = unless_stays client client.dropped

-- the number of the last command issued counts all that were
pub issued_count : (profile : Profile) (whole : Whole) (k : ℕ) (slot : SlotState) → FlowLaws → k < places → slot_at whole.ends.server k ≡ Some slot → Holds profile whole
    → issued_of slot.issued ≡ length (history_at whole.histories k).server_commands
issued_count profile whole k slot flow within at holds =
    let history = history_at whole.histories k in
    let had = has_slot profile whole k slot within at holds in
    let client = had.0.client in
    (flow.issues slot.issued client.state.executed history.server_commands history.client_executed (carried_built history.built) (acks_said history.said) slot.gathering.taken client.gathering.taken []
    had.1.joined.commanded.to_client).1

module _ (profile : Profile) (whole : Whole) (old : History) (c : ℕ) (lt : c < places) (holds : Holds profile whole) (is : At old c whole) where
  -- ---- a client's own end

  typed_stays : (place after : Place) (history : History) (text : List ℕ) (k : ℕ) (answer : Result ℕ WindowFull) → after.client.state ≡ place.client.state → Of old whole.ends.server.map (Some place) history
      → Of old whole.ends.server.map (Some after) (with_typed history text (Given (typed k answer)))
  typed_stays place after history text k (Ok number) same was = same_state old whole.ends.server.map place after history same was
  typed_stays place after history text k (Err e) same was = same_state old whole.ends.server.map place after history same was

  moved_stays : (place after : Place) (history : History) (one : Move) (k : ℕ) (answer : Result (Unit {0}) MoveError) → after.client.state ≡ place.client.state → Of old whole.ends.server.map (Some place) history
      → Of old whole.ends.server.map (Some after) (with_issued history one (Given (moved k answer)))
  moved_stays place after history one k (Ok x) same was = same_state old whole.ends.server.map place after history same was
  moved_stays place after history one k (Err e) same was = same_state old whole.ends.server.map place after history same was

  said_stays : (place after : Place) (history : History) (began : Option Said) → after.client.state ≡ place.client.state → Of old whole.ends.server.map (Some place) history
      → Of old whole.ends.server.map (Some after) (with_said history began)
  said_stays place after history None same was = same_state old whole.ends.server.map place after history same was
  said_stays place after history (Some said) same was = same_state old whole.ends.server.map place after history same was

  -- a client that is there changes, and what is noted of it
  ends_changed : (k : ℕ) (place after : Place) (next : History) → place_at whole.ends k ≡ Some place
      → (Of old whole.ends.server.map (Some place) (history_at whole.histories k) → Of old whole.ends.server.map (Some after) next)
      → Of old whole.ends.server.map (get_or (slice_set whole.ends.clients k (Some after)) c None) (history_at (with_history whole.histories k next) c)
  ends_changed k place after next at own =
      both_changed (λ (e : Option Place) (h : History). Of old whole.ends.server.map e h) whole.ends.clients whole.histories c k (Some after) next holds.facts.clients holds.facts.histories lt
      (λ was. own (subst (λ (e : Option Place). Of old whole.ends.server.map e (history_at whole.histories k)) at was)) is

  -- it issues a command
  types : (k : ℕ) (text : List ℕ) (found : Option Place) → place_at whole.ends k ≡ found
      → At old c (noting whole k (client_step_of whole.ends k (events.TypeText k text) found) (with_typed (history_at whole.histories k) text))
  types k text None at = unnoted profile whole old c lt holds is k
  types k text (Some place) at =
      let issuing = type_at place.client text in
      let after : Place = record place { client = issuing.client } in
      ends_changed k place after (with_typed (history_at whole.histories k) text (Given (typed k issuing.answer))) at
      (typed_stays place after (history_at whole.histories k) text k issuing.answer refl)

  -- or a move
  moves : (k : ℕ) (one : Move) (found : Option Place) → place_at whole.ends k ≡ found
      → At old c (noting whole k (client_step_of whole.ends k (events.Move k one) found) (with_issued (history_at whole.histories k) one))
  moves k one None at = unnoted profile whole old c lt holds is k
  moves k one (Some place) at =
      let given = add_move_at place.client one in
      let after : Place = record place { client = given.client } in
      ends_changed k place after (with_issued (history_at whole.histories k) one (Given (moved k given.answer))) at
      (moved_stays place after (history_at whole.histories k) one k given.answer (move_stays place.client one))

  -- or makes a datagram
  sends : (k : ℕ) (found : Option Place) → place_at whole.ends k ≡ found → At old c (send whole k found).whole
  sends k None at = is
  sends k (Some place) at =
      let client = asking place.client place.recording in
      let emission = speaks.emit_at client in
      let after : Place = record place { client = emission.client } in
      ends_changed k place after (with_said (history_at whole.histories k) emission.began) at
      (said_stays place after (history_at whole.histories k) emission.began (send_stays client))

  -- ---- the server makes a datagram

  begun_follows : FlowLaws → (k : ℕ) (slot : SlotState) → k < places → slot_at whole.ends.server k ≡ Some slot → (began : Option Built) → IfSome began (TellsOf whole.ends.server.map (issued_of slot.issued))
      → Of old whole.ends.server.map (place_at whole.ends c) (history_at whole.histories k) → Of old whole.ends.server.map (place_at whole.ends c) (with_built (history_at whole.histories k) began)
  begun_follows flow k slot within at None tells was = was
  begun_follows flow k slot within at (Some next) tells was =
      let map = whole.ends.server.map in
      let history = history_at whole.histories k in
      let count = issued_count profile whole k slot flow within at holds in
      follows_built map.id map.strings old.built old.server_commands (state_in (place_at whole.ends c)) history.built history.games history.server_commands next holds.facts.map.pending (tells.last_is ∙ count)
      (λ game e. let so = tells.game game e in (so.0, so.1 ∙ count)) was

  serves : FlowLaws → (k : ℕ) → k < places → (found : Option SlotState) → slot_at whole.ends.server k ≡ found → At old c (serve whole k (emit_from whole.ends.server k found)).whole
  serves flow k within None at = unnoted profile whole old c lt holds is k
  serves flow k within (Some slot) at =
      let server = whole.ends.server in
      let emission = emit_slot server.profile server.map server.frames k slot slot.sending.under_way in
      let so : BeginsSo server.map (issued_of slot.issued) emission.map emission.began = emits_so server.profile server.map server.frames k slot slot.sending.under_way in
      let noted = history_at (with_history whole.histories k (with_built (history_at whole.histories k) emission.began)) c in
      same_map old server.map emission.map (place_at whole.ends c) noted so.id so.strings
      (history_changed (λ (h : History). Of old server.map (place_at whole.ends c) h) whole.histories c k (with_built (history_at whole.histories k) emission.began) holds.facts.histories lt
      (begun_follows flow k slot within at emission.began so.tells) is)

  -- ---- a datagram arrives

  comes_to_client : FlowLaws → TaggedDoes → (datagram : ℕ) (tag : Tag) → IsSent profile whole.histories tag → tag.direction ≡ ToClient → (found : Option Place)
      → place_at whole.ends tag.client ≡ found → At old c (to_client profile whole datagram tag found).whole
  comes_to_client flow does_so datagram tag sent way None at = is
  comes_to_client flow does_so datagram tag sent way (Some place) at =
      let client = place.client in
      let k = tag.client in
      let map = whole.ends.server.map in
      let history = history_at whole.histories k in
      let built = named whole.histories tag in
      let bytes = built_bytes profile built in
      let took = tagged client.gathering tag.number bytes tag.index in
      let taken = take_gathered client took (λ n. Ok (receive_message client n built.message (plain_bytes profile built))) in
      let had = has_client profile whole k place sent.client at holds in
      let slot = had.0 in
      let of = had.1.joined in
      let piece : IsWay profile history tag ToClient = subst (λ (d : Direction). IsWay profile history tag d) way sent.way in
      let some = piece.some in
      let begun = piece.begun in
      let there : tag.number - 1 + 1 ≡ tag.number = omega (arith, some) in
      let is_built : IsBuilt profile slot.challenge tag.number built =
      subst (λ (n : ℕ). IsBuilt profile slot.challenge n built) there (had.1.keeps.of_slot.built (tag.number - 1) no_message (omega (arith, some, begun))) in
      let after : Place = record place { client = taken.client; recording = (note_taken place.recording client taken).recording } in
      ends_changed k place after (with_taken history tag.number built.message.section taken) at
      (λ was. take_follows map.id map.strings old.built old.server_commands history client took tag.number bytes built (plain_bytes profile built) (does_so client.gathering tag.number bytes tag.index)
      (λ newer. hears_it flow profile slot client history tag.number newer begun is_built of.commanded of.mapped.has was.heard) was)

  comes_to_server : (datagram : ℕ) (tag : Tag) (from : Address) (found : Option SlotState) → At old c (to_server profile whole datagram tag from found).whole
  comes_to_server datagram tag from None = history_changed (λ (h : History). Of old whole.ends.server.map (place_at whole.ends c) h) whole.histories c tag.client
      (with_run (history_at whole.histories tag.client) (unmoved whole.ends.server Stranger).heard) holds.facts.histories lt (λ was. was) is
  comes_to_server datagram tag from (Some slot) =
      let taken = by_slot.take_gathered whole.ends.server.map (record slot { address = from }) tag.client
      (tagged slot.gathering tag.number (said_bytes profile (said_under whole.histories tag)) tag.index) (λ n. Ok (by_slot.came_as whole.ends.server.map (said_under whole.histories tag).message)) in
      history_changed (λ (h : History). Of old whole.ends.server.map (place_at whole.ends c) h) whole.histories c tag.client
      (with_run (history_at whole.histories tag.client) (taken_at whole.ends.server tag.client taken).heard) holds.facts.histories lt (λ was. was) is

  comes_to : FlowLaws → TaggedDoes → (datagram : ℕ) (tag : Tag) → IsSent profile whole.histories tag → (direction : Direction) → tag.direction ≡ direction
      → At old c (arrive profile whole datagram tag direction).whole
  comes_to flow does_so datagram tag sent ToClient way = comes_to_client flow does_so datagram tag sent way (place_at whole.ends tag.client) refl
  comes_to flow does_so datagram tag sent (ToServer from) way = comes_to_server datagram tag from (slot_at whole.ends.server tag.client)

  delivers : FlowLaws → TaggedDoes → (number : ℕ) (found : Option Tag) → slice_get whole.sent (number - 1) ≡ found → At old c (deliver profile whole number found).whole
  delivers flow does_so number None at = is
  delivers flow does_so number (Some tag) at =
      let sent : IsSent profile whole.histories tag =
      subst (IsSent profile whole.histories) (get_or_from_slice_get whole.sent (number - 1) tag tag at) (holds.facts.sent (number - 1) tag (slice_get_within whole.sent (number - 1) tag at)) in
      comes_to flow does_so number tag sent tag.direction refl

  -- ---- every event

  pub follows_on : FlowLaws → TaggedDoes → ConfigLaws → (event : Event) → IsScheduled event → SaysNoChange event → At old c (step profile whole event).whole
  unfolding step line_of server_line emit_at
  follows_on flow does_so laws (events.Client k challenge qport dup address) replay none = joins profile whole old c lt holds is k challenge qport dup address (omega (arith, replay.0.0))
  follows_on flow does_so laws (events.Port k port) replay none = ports profile whole old c lt holds is k port (place_at whole.ends k) refl
  follows_on flow does_so laws (events.Map id feed) replay none = maps profile whole old c lt holds is id feed
  follows_on flow does_so laws (events.Baseline state) replay none =
      in_range_follows profile whole old c lt holds is state.number (answers.Baseline state.number (Err unset.OutOfRange)) (at_server.set_baseline whole.ends.server state)
      (baselines profile whole old c lt holds is state)
  follows_on flow does_so laws (events.Entity state) replay none =
      in_range_follows profile whole old c lt holds is state.number (answers.Entity state.number (Err (record {}))) (at_server.set_entity whole.ends.server state) is
  follows_on flow does_so laws (events.Remove number) replay none =
      in_range_follows profile whole old c lt holds is number (answers.Remove number (Err (record {}))) (at_server.remove_entity whole.ends.server number) is
  follows_on flow does_so laws (events.Config index text) replay none = configs profile whole old c lt holds is laws index text
  follows_on flow does_so laws (events.Player k player) replay none = gives profile whole old c lt holds is k (λ slot. with_player whole.ends.server.profile slot player) (slot_at whole.ends.server k)
  follows_on flow does_so laws (events.Area k area) replay none = gives profile whole old c lt holds is k (λ slot. with_area slot area.items) (slot_at whole.ends.server k)
  follows_on flow does_so laws (events.Say k text) replay none = says profile whole old c lt holds is k text none
  follows_on flow does_so laws (events.TypeText k text) replay none = types k text (place_at whole.ends k) refl
  follows_on flow does_so laws (events.Move k one) replay none = moves k one (place_at whole.ends k) refl
  follows_on flow does_so laws (events.Serve k) replay none = serves flow k (omega (arith, replay.0)) (slot_at whole.ends.server k) refl
  follows_on flow does_so laws (events.Send k) replay none = sends k (place_at whole.ends k) refl
  follows_on flow does_so laws (events.Deliver number) replay none =
      subst (λ (b : Bool). At old c (deliver_as b profile whole number (slice_get whole.sent (number - 1))).whole) (sym holds.own) (delivers flow does_so number (slice_get whole.sent (number - 1)) refl)
  follows_on flow does_so laws (events.RecordTo k name) replay none = records profile whole old c lt holds is k name (place_at whole.ends k) refl
  follows_on flow does_so laws (events.Stop k) replay none = stops profile whole old c lt holds is k (place_at whole.ends k) refl
  follows_on flow does_so laws (events.Show k) replay none = subst (λ (ends : Ends). At old c (record whole { ends = ends })) (sym (show_stays whole.ends k (place_at whole.ends k) refl)) is
  follows_on flow does_so laws (events.Toclient k bytes) replay none = absurd replay.1
  follows_on flow does_so laws (events.Toserver k bytes) replay none = absurd replay.1
  follows_on flow does_so laws event replay none = is
