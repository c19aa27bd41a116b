-- Each client keeps its slot at the server, and its place: no slot is ever given up, or given to another.
use Rattle.std.proofs.Common.{◌≡◌, ℕ, ◌<◌, List, length, get_or, set, map, Option, Some, None, Result, Ok, Err, true, false, refl, sym, subst, inl, inr}
use Rattle.std.specs.Prelude.{◌==◌, ◌-◌, ◌+◌, ◌||◌, not, nat_le, nat_lt, position, slice_get, option_map}
use Rattle.std.specs.Option.{is_some}
use Rattle.std.proofs.lemmas.Bool.{cases_Bool, cases_eq, cases_lt, cond_both, leb-false}
use Rattle.std.proofs.lemmas.List.{get_or-replicate, get_or-set_other, get_or-set_same, length-replicate}
use Rattle.std.proofs.Math.ListN.{get_or-eq_default, get_or-map}
use Rattle.std.proofs.Math.Seq.{set_out}
use Rattle.q3_io.specs.declared.address.Address.{Address}
use Rattle.q3_chan.specs.declared.qport.NoQport.{NoQport}
use Rattle.q3_chan.specs.declared.qport.NoQport.TheVariants as no
use Rattle.q3_chan.specs.Checks.{is_checked}
use Rattle.q3_chan.specs.Senders.{qport_of}
use Rattle.q3_profile.specs.declared.profile.Profile.{Profile}
use Rattle.q3_map.specs.declared.map.NotLater.{NotLater}
use Rattle.q3_map.specs.Map as of_map
use Rattle.q3_map.specs.Map.{MapState}
use Rattle.q3_bits.specs.Bits.{message_length}
use Rattle.q3_chan.specs.Datagrams.{longest_message, sequence_end}
use Rattle.q3_chan.specs.declared.gatherer.Gathered.{Gathered}
use Rattle.q3_chan.specs.declared.gatherer.Gathered.TheVariants as gathered
use Rattle.q3_chan.specs.Gathering.{gathered as gathered_of}
use Rattle.q3_chan.specs.Sending.{UnderWay}
use Rattle.q3_svmsg.specs.declared.error.Illegible.{Illegible}
use Rattle.q3_clmsg.specs.declared.error.ClientIllegible.{ClientIllegible}
use Rattle.q3_clmsg.specs.Values.{Message}
use Rattle.q3_clmsg.specs.declared.moves.Move.{Move}
use Rattle.q3_frames.specs.Frames.{FramesState}
use Rattle.q3_built.specs.Built.{Built, built_bits, is_unclear}
use Rattle.q3_window.specs.Incoming.{gap_in}
use Rattle.q3_config.specs.declared.error.ConfigError.{ConfigError}
use Rattle.q3_config.specs.Strings.{admit_fault, has_string}
use Rattle.q3_config.specs.Laws.{piece_texts}
use Rattle.q3_slot.specs.Slot.{SlotState, is_connected, is_of, new_slot, on_new_map, with_area, with_player}
use Rattle.q3_slot.specs.Slots.{changes_own, lacks_room, say_slot, tells}
use Rattle.q3_slot.specs.Emitting.{SlotEmission, begun_next, emit_built, emit_game, emit_new, emit_slot, is_overlong, most_placed, next_frames, next_game_built}
use Rattle.q3_slot.specs.Taking.{Came, OfMap, OfOther, SlotTaken, run_read, run_unless, said_by, take_answer, take_slot}
use Rattle.q3_server.specs.declared.server.SlotError.{SlotError}
use Rattle.q3_server.specs.declared.server.SlotError.TheVariants.{Range}
use Rattle.q3_server.specs.declared.server.ConfigRefused.{ConfigRefused}
use Rattle.q3_server.specs.declared.server.ConfigRefused.TheVariants.{Own}
use Rattle.q3_server.specs.Server.{ServerState, Handed, places, slot_at, add_apart, add_to, add_client_at, on_map, new_map_at, own_string, change_unless, change_where, change_or, set_config_at, give, say_to, say_at, emit_from, emit_at}
use Rattle.q3_server.specs.Taking as hears
use Rattle.q3_server.specs.Taking.{take_by, take_from, take_headed}
use Rattle.q3_script.specs.declared.event.Event.{Event}
use Rattle.q3_script.specs.declared.event.Event.TheVariants as events
use Rattle.q3_client.specs.Client.{ClientState, Reception, applies_read, new_client, receive_bytes, take_at, take_unless}
use Rattle.q3_client.specs.Client as by_client
use Rattle.q3_client.specs.Moves.{add_move_at, is_issuable}
use Rattle.q3_client.specs.Sending as speaks
use Rattle.q3_report.specs.declared.answer.Front.{Front}
use Rattle.q3_report.specs.declared.answer.Front.TheVariants as fronts
use Rattle.q3_report.specs.declared.answer.HandedIn.{HandedIn}
use Rattle.q3_report.specs.declared.answer.HandedIn.TheVariants as handed
use Rattle.q3_report.specs.declared.answer.BaselineRefused.TheVariants as unset
use Rattle.q3_ends.specs.AtServer as at_server
use Rattle.q3_ends.specs.AtServer.{ServerStep, in_range, server_line}
use Rattle.q3_world.proofs.Ranged.{in_range_or}
use Rattle.q3_ends.specs.Recording.{RecordingState, asking, note_taken}
use Rattle.q3_world.specs.declared.made.Direction.{Direction}
use Rattle.q3_world.specs.declared.made.Direction.TheVariants.{ToClient, ToServer}
use Rattle.q3_world.specs.declared.places.Place.{Place}
use Rattle.q3_world.specs.Ends.{Ends, client_takes, hand_server_of, joined, line_of, new_ends, place_at, client_step_of, set_port_of, with_place}
use Rattle.q3_ends.specs.ClientLine.{client_line, client_after, recording_after}
use Rattle.q3_world.specs.Kept.{Kept, SentBytes, arrive_at, deliver_at, kept_send, kept_step}
use Rattle.q3_schedules.specs.Slots.{HaveSlots, IsSameSlot, IsSamePlace, Remains, SlotsAreKept}

-- ---- what remains

remains_same : {A : Type 0} (Same : A → A → Type 0) → ((one : A) → Same one one) → (found : Option A) → Remains Same found found
remains_same Same same None = tt
remains_same Same same (Some one) = same one

some_remains : {A : Type 0} (Same : A → A → Type 0) (old new : Option A) → Remains Same old new → is_some old ≡ true → is_some new ≡ true
some_remains Same None new remains is = absurd cc
some_remains Same (Some one) None remains is = absurd remains
some_remains Same (Some one) (Some now) remains is = refl

-- in a list in whose place one is put
put_remains : {A : Type 0} (Same : A → A → Type 0) → ((one : A) → Same one one) → (places : List (Option A)) (c : ℕ) (now : A) → Remains Same (get_or places c None) (Some now)
    → (d : ℕ) → Remains Same (get_or places d None) (get_or (set places c (Some now)) d None)
put_remains Same same places c now here d = elim (cases_eq d c) [
  | inl is ↦ elim (cases_lt c (length places)) [
    | inl lt ↦ rw (is, get_or-set_same places c (Some now) None lt) here
    | inr ge ↦ rw (set_out places c (Some now) ge) (remains_same Same same (get_or places d None))
  ]
  | inr not ↦ rw (get_or-set_other places c d (Some now) None not) (remains_same Same same (get_or places d None))
]

same_slot : (slot : SlotState) → IsSameSlot slot slot
same_slot slot = (refl, refl)

mapped : (f : SlotState → SlotState) → ((slot : SlotState) → IsSameSlot slot (f slot)) → (found : Option SlotState) → Remains IsSameSlot found (option_map f found)
mapped f keeps None = tt
mapped f keeps (Some slot) = keeps slot

map_remains : (f : SlotState → SlotState) → ((slot : SlotState) → IsSameSlot slot (f slot)) → (slots : List (Option SlotState)) (d : ℕ)
    → Remains IsSameSlot (get_or slots d None) (get_or (map (option_map f) slots) d None)
map_remains f keeps slots d =
    subst (λ (found : Option SlotState). Remains IsSameSlot (get_or slots d None) found) (sym (get_or-map (option_map f) slots d None)) (mapped f keeps (get_or slots d None))

-- ---- a slot keeps its client

says_same : (slot : SlotState) (text : List ℕ) → IsSameSlot slot (say_slot slot text).slot
says_same slot text = elim (cases_Bool (changes_own text)) [
  | inl own ↦ rw own (refl, refl)
  | inr other ↦ elim (cases_Bool (is_connected slot.stage)) [
    | inl waits ↦ rw (other, waits) (refl, refl)
    | inr primed ↦ rw (other, primed) (refl, refl)
  ]
]

tells_same : (texts : List (List ℕ)) (slot : SlotState) → IsSameSlot slot (tells texts slot)
tells_same texts slot = elim (cases_Bool (is_connected slot.stage)) [
  | inl waits ↦ rw waits (refl, refl)
  | inr primed ↦ rw primed (refl, refl)
]

module _ (profile : Profile) (map : MapState) (slot : SlotState) where
  abbrev Emits : SlotEmission → Type 0
  Emits emission = IsSameSlot slot emission.slot

  emits_built : (frames : FramesState) (built : Built) → Emits (emit_built profile slot map frames built)
  emits_built frames built = elim (cases_Bool (is_overlong (built_bits profile built))) [
    | inl long ↦ rw long (refl, refl)
    | inr short ↦ rw short (refl, refl)
  ]

  emits_game : (frames : FramesState) (built : Built) → Emits (emit_game profile slot map frames built)
  emits_game frames built = elim (cases_Bool (is_overlong (built_bits profile built))) [
    | inl long ↦ rw long (refl, refl)
    | inr short ↦ rw short (refl, refl)
  ]

  emits_new : (frames : FramesState) (c : ℕ) → Emits (emit_new profile map frames c slot)
  emits_new frames c = elim (cases_Bool (nat_le sequence_end (slot.sending.number + 1) || nat_lt most_placed frames.placed)) [
    | inl ended ↦ rw ended (refl, refl)
    | inr goes ↦ elim (cases_Bool (is_unclear profile slot.executed.executed)) [
      | inl hidden ↦ rw (goes, hidden) (refl, refl)
      | inr clear ↦
          rw (goes, clear) (cond_both slot.owed (emit_game profile slot map frames (next_game_built profile map c slot))
          (emit_built profile slot map (next_frames map frames c slot) (begun_next profile map frames c slot)) Emits
          (λ owed. emits_game frames (next_game_built profile map c slot))
          (λ none. emits_built (next_frames map frames c slot) (begun_next profile map frames c slot)))
    ]
  ]

  emits_same : (frames : FramesState) (c : ℕ) (left : Option UnderWay) → Emits (emit_slot profile map frames c slot left)
  emits_same frames c None = emits_new frames c
  emits_same frames c (Some left) = (refl, refl)

  abbrev Runs : SlotTaken → Type 0
  Runs taken = IsSameSlot slot taken.slot

  runs_unless : (c number : ℕ) (message : Message) (gap : Option ℕ) → Runs (run_unless slot c number message gap)
  runs_unless c number message (Some gap) = (refl, refl)
  runs_unless c number message None = (refl, refl)

  runs_read : (c number : ℕ) (read : Result Came ClientIllegible) → Runs (run_read map slot c number read)
  runs_read c number (Ok (OfMap message)) = runs_unless c number message (gap_in slot.executed.executed message.commands)
  runs_read c number (Ok (OfOther heads)) = (refl, refl)
  runs_read c number (Err cause) = (refl, refl)

  takes_same : (c : ℕ) (answer : Gathered) (read : ℕ → Result Came ClientIllegible) → Runs (take_answer map slot c answer read)
  takes_same c (gathered.Whole number count) read = runs_read c number (read number)
  takes_same c gathered.Partial read = (refl, refl)
  takes_same c gathered.Old read = (refl, refl)
  takes_same c gathered.OutOfOrder read = (refl, refl)
  takes_same c gathered.BadFragment read = (refl, refl)
  takes_same c gathered.BadCheck read = (refl, refl)
  takes_same c gathered.Runt read = (refl, refl)
  takes_same c gathered.Connectionless read = (refl, refl)

-- ---- calls of the server

abbrev SlotsStay : ServerState → ServerState → Type 0
SlotsStay old new = (d : ℕ) → Remains IsSameSlot (slot_at old d) (slot_at new d)

all_slots : (server : ServerState) → SlotsStay server server
all_slots server d = remains_same IsSameSlot same_slot (slot_at server d)

put_slot : (server : ServerState) (c : ℕ) (slot now : SlotState) → slot_at server c ≡ Some slot → IsSameSlot slot now
    → (d : ℕ) → Remains IsSameSlot (slot_at server d) (get_or (set server.slots c (Some now)) d None)
put_slot server c slot now at same = put_remains IsSameSlot same_slot server.slots c now (rw at same)

gives : (server : ServerState) (c : ℕ) (change : SlotState → SlotState) → ((slot : SlotState) → IsSameSlot slot (change slot))
    → (found : Option SlotState) → slot_at server c ≡ found → SlotsStay server (give server c change found).server
gives server c change keeps None at = all_slots server
gives server c change keeps (Some slot) at = put_slot server c slot (change slot) at (keeps slot)

says : (server : ServerState) (c : ℕ) (text : List ℕ) (found : Option SlotState) → slot_at server c ≡ found → SlotsStay server (say_to server c text found).server
says server c text None at = all_slots server
says server c text (Some slot) at =
    let saying = say_slot slot text in
    put_slot server c slot saying.slot at (says_same slot text)

emits : (server : ServerState) (c : ℕ) (found : Option SlotState) → slot_at server c ≡ found → SlotsStay server (emit_from server c found).server
emits server c None at = all_slots server
emits server c (Some slot) at =
    let emission = emit_slot server.profile server.map server.frames c slot slot.sending.under_way in
    put_slot server c slot emission.slot at (emits_same server.profile server.map slot server.frames c slot.sending.under_way)

emit_stays : (server : ServerState) (c : ℕ) → SlotsStay server (emit_at server c).server
unfolding emit_at
emit_stays server c = emits server c (slot_at server c) refl

takes_by : (server : ServerState) (c : ℕ) (from : Address) (bytes : List ℕ) (found : Option SlotState) → slot_at server c ≡ found → SlotsStay server (take_by server c from bytes found).server
takes_by server c from bytes None at = all_slots server
takes_by server c from bytes (Some slot) at =
    let taken = take_slot server.profile server.map c from bytes slot in
    let came = gathered_of slot.gathering bytes in
    let there : SlotState = record slot { address = from; gathering = came.gathering } in
    put_slot server c slot taken.slot at
    (takes_same server.profile server.map there c came.answer (λ number. said_by server.profile server.map slot came.message))

takes_from : (server : ServerState) (from : Address) (bytes : List ℕ) (found : Option ℕ) → SlotsStay server (take_from server from bytes found).server
takes_from server from bytes None = all_slots server
takes_from server from bytes (Some c) = takes_by server c from bytes (slot_at server c) refl

takes_headed : (server : ServerState) (from : Address) (bytes : List ℕ) (head : Result ℕ NoQport) → SlotsStay server (take_headed server from bytes head).server
takes_headed server from bytes (Ok qport) = takes_from server from bytes (hears.sender_of server from.host qport)
takes_headed server from bytes (Err no.Runt) = all_slots server
takes_headed server from bytes (Err no.Connectionless) = all_slots server

take_stays : (server : ServerState) (from : Address) (bytes : List ℕ) → SlotsStay server (hears.take_at server from bytes).server
unfolding hears.take_at
take_stays server from bytes = takes_headed server from bytes (qport_of (is_checked server.profile.protocol) bytes)

maps : (slots : List (Option SlotState)) (answer : Result (Unit {0}) NotLater) (d : ℕ) → Remains IsSameSlot (get_or slots d None) (get_or (on_map slots answer) d None)
maps slots (Ok x) d = map_remains on_new_map (λ slot. (refl, refl)) slots d
maps slots (Err e) d = remains_same IsSameSlot same_slot (get_or slots d None)

map_at_stays : (server : ServerState) (id feed : ℕ) → SlotsStay server (new_map_at server id feed).server
map_at_stays server id feed = maps server.slots (of_map.new_map_at server.map id feed).answer

changes_unless : (server : ServerState) (index : ℕ) (text : List ℕ) (found : Option ℕ) → SlotsStay server (change_unless server index text found).server
changes_unless server index text (Some c) = all_slots server
changes_unless server index text None = map_remains (tells (piece_texts index text)) (tells_same (piece_texts index text)) server.slots

changes_where : (server : ServerState) (index : ℕ) (text : List ℕ) → SlotsStay server (change_where server index text).server
changes_where server index text =
    cond_both (has_string server.map.strings index text) (record { server = server; answer = Ok tt }) (change_unless server index text (position (lacks_room (piece_texts index text)) server.slots))
    (λ (handed : Handed ConfigRefused). SlotsStay server handed.server) (λ same. all_slots server) (λ other. changes_unless server index text (position (lacks_room (piece_texts index text)) server.slots))

changes_or : (server : ServerState) (index : ℕ) (text : List ℕ) (fault : Option ConfigError) → SlotsStay server (change_or server index text fault).server
changes_or server index text (Some fault) = all_slots server
changes_or server index text None = changes_where server index text

config_stays : (server : ServerState) (index : ℕ) (text : List ℕ) → SlotsStay server (set_config_at server index text).server
config_stays server index text =
    cond_both (index == own_string) (record { server = server; answer = Err Own }) (change_or server index text (admit_fault server.map.strings index text))
    (λ (handed : Handed ConfigRefused). SlotsStay server handed.server) (λ own. all_slots server) (λ other. changes_or server index text (admit_fault server.map.strings index text))

-- a client joins where there was none, and is there then
pub record Joins (server : ServerState) (c : ℕ) (handed : Handed SlotError) : Type 0 where
  pub stays : SlotsStay server handed.server
  pub free : handed.answer ≡ Ok tt → slot_at server c ≡ None
  pub taken : handed.answer ≡ Ok tt → is_some (slot_at handed.server c) ≡ true

joins_apart : (server : ServerState) (c : ℕ) (slot : SlotState) (twin : Option ℕ) → c < length server.slots → slot_at server c ≡ None → Joins server c (add_apart server c slot twin)
joins_apart server c slot (Some twin) lt none = record { stays = all_slots server; free = λ ok. none; taken = λ ok. absurd cc }
joins_apart server c slot None lt none = record {
  stays = put_remains IsSameSlot same_slot server.slots c slot (rw none tt);
  free = λ ok. none;
  taken = λ ok. rw (get_or-set_same server.slots c (Some slot) None lt) refl;
}

joins_to : (server : ServerState) (c : ℕ) (slot : SlotState) (found : Option SlotState) → c < length server.slots → slot_at server c ≡ found → Joins server c (add_to server c slot found)
joins_to server c slot (Some old) lt at = record { stays = all_slots server; free = λ ok. absurd cc; taken = λ ok. absurd cc }
joins_to server c slot None lt at = joins_apart server c slot (position (is_of slot.address.host slot.qport) server.slots) lt at

pub joins : (server : ServerState) (c challenge qport : ℕ) (address : Address) → Joins server c (add_client_at server c challenge qport address)
joins server c challenge qport address =
    cond_both (nat_le (length server.slots) c) (record { server = server; answer = Err Range }) (add_to server c (new_slot server.profile.protocol challenge qport address) (slot_at server c))
    (λ (handed : Handed SlotError). Joins server c handed) (λ out. record { stays = all_slots server; free = λ ok. absurd cc; taken = λ ok. absurd cc })
    (λ room. joins_to server c (new_slot server.profile.protocol challenge qport address) (slot_at server c) (leb-false (length server.slots) c room) refl)

-- ---- a client stays the same

abbrev IsSame : ClientState → ClientState → Type 0
IsSame client now = (now.challenge ≡ client.challenge) × (now.qport ≡ client.qport)

moves_same : (client : ClientState) (one : Move) → IsSame client (add_move_at client one).client
moves_same client one = elim (cases_Bool (not client.state.has_game)) [
  | inl waits ↦ rw waits (refl, refl)
  | inr plays ↦ elim (cases_Bool (nat_le one.time client.last_time)) [
    | inl late ↦ rw (plays, late) (refl, refl)
    | inr later ↦ elim (cases_Bool (is_issuable one)) [
      | inl fine ↦ rw (plays, later, fine) (refl, refl)
      | inr out ↦ rw (plays, later, out) (refl, refl)
    ]
  ]
]

line_same : (client : ClientState) (recording : Option RecordingState) (event : Event) → IsSame client (client_after client (client_line client recording event))
line_same client recording (events.TypeText c text) = (refl, refl)
line_same client recording (events.Move c one) = moves_same client one
line_same client recording (events.RecordTo c name) = (refl, refl)
line_same client recording (events.Stop c) = (refl, refl)
line_same client recording (events.Show c) = (refl, refl)
line_same client recording event = (refl, refl)

sends_new : (client : ClientState) → IsSame client (speaks.emit_new client).client
sends_new client = elim (cases_Bool (nat_le sequence_end (client.sending.number + 1))) [
  | inl ended ↦ rw ended (refl, refl)
  | inr goes ↦ elim (cases_Bool (speaks.is_unclear client.state.profile (speaks.next_message client))) [
    | inl hidden ↦ rw (goes, hidden) (refl, refl)
    | inr clear ↦ elim (cases_Bool (nat_lt longest_message (message_length (length (speaks.said_bits client.state.profile (speaks.next_said client)))))) [
      | inl long ↦ rw (goes, clear, long) (refl, refl)
      | inr short ↦ rw (goes, clear, short) (refl, refl)
    ]
  ]
]

sends_left : (client : ClientState) (left : Option UnderWay) → IsSame client (speaks.emit_left client left).client
sends_left client None = sends_new client
sends_left client (Some left) = (refl, refl)

sends_unless : (client : ClientState) (dropped : Option Illegible) → IsSame client (speaks.emit_unless client dropped).client
sends_unless client None = sends_left client client.sending.under_way
sends_unless client (Some cause) = (refl, refl)

sends_same : (client : ClientState) → IsSame client (speaks.emit_at client).client
unfolding speaks.emit_at
sends_same client = sends_unless client client.dropped

hears_read : (client : ClientState) (read : Result Reception Illegible) → IsSame client (applies_read client read).client
hears_read client (Ok received) = (refl, refl)
hears_read client (Err cause) = (refl, refl)

hears_answer : (client : ClientState) (answer : Gathered) (receive : ℕ → Result Reception Illegible) → IsSame client (by_client.take_answer client answer receive).client
hears_answer client (gathered.Whole number count) receive = hears_read client (receive number)
hears_answer client gathered.Partial receive = (refl, refl)
hears_answer client gathered.Old receive = (refl, refl)
hears_answer client gathered.OutOfOrder receive = (refl, refl)
hears_answer client gathered.BadFragment receive = (refl, refl)
hears_answer client gathered.BadCheck receive = (refl, refl)
hears_answer client gathered.Runt receive = (refl, refl)
hears_answer client gathered.Connectionless receive = (refl, refl)

hears_unless : (client : ClientState) (bytes : List ℕ) (dropped : Option Illegible) → IsSame client (take_unless client bytes dropped).client
hears_unless client bytes None =
    let came = gathered_of client.gathering bytes in
    hears_answer (record client { gathering = came.gathering }) came.answer (λ number. receive_bytes client number came.message)
hears_unless client bytes (Some cause) = (refl, refl)

hears_same : (client : ClientState) (bytes : List ℕ) → IsSame client (take_at client bytes).client
unfolding take_at
hears_same client bytes = hears_unless client bytes client.dropped

-- ---- both ends

same_place : (place : Place) → IsSamePlace place place
same_place place = (refl, refl)

-- each client keeps its slot, and each that has one its place; and each that is at its place has its slot if it was so before
record Stay (old new : Ends) : Type 0 where
  pub slots : SlotsStay old.server new.server
  pub places : HaveSlots old → (d : ℕ) → Remains IsSamePlace (place_at old d) (place_at new d)
  pub have : HaveSlots old → HaveSlots new

all_places : (ends : Ends) (d : ℕ) → Remains IsSamePlace (place_at ends d) (place_at ends d)
all_places ends d = remains_same IsSamePlace same_place (place_at ends d)

by_server : (ends : Ends) (server : ServerState) → SlotsStay ends.server server → Stay ends (record ends { server = server })
by_server ends server stays = record {
  slots = stays;
  places = λ have. all_places ends;
  have = λ have d is. some_remains IsSameSlot (slot_at ends.server d) (slot_at server d) (stays d) (have d is);
}

all_stay : (ends : Ends) → Stay ends ends
all_stay ends = record { slots = all_slots ends.server; places = λ have. all_places ends; have = λ have. have }

-- what stands at a place where a client was
pub there : (ends : Ends) (c : ℕ) (place now : Place) → place_at ends c ≡ Some place → place_at (with_place ends c now) c ≡ Some now
there ends c place now at = elim (cases_lt c (length ends.clients)) [
  | inl lt ↦ get_or-set_same ends.clients c (Some now) None lt
  | inr ge ↦ absurd (nobody (place_at ends c) (get_or-eq_default ends.clients None ge) at)
]
  where
    nobody : (found : Option Place) → found ≡ None → found ≡ Some place → ⊥
    nobody None none some = absurd cc
    nobody (Some other) none some = absurd cc

puts : (ends : Ends) (c : ℕ) (place now : Place) → place_at ends c ≡ Some place → IsSamePlace place now → Stay ends (with_place ends c now)
puts ends c place now at same = record {
  slots = all_slots ends.server;
  places = λ have. put_remains IsSamePlace same_place ends.clients c now (rw at same);
  have = λ have d is. elim (cases_eq d c) [
    | inl is_c ↦ have d (rw (is_c, at) refl)
    | inr not ↦ have d (subst (λ (found : Option Place). is_some found ≡ true) (get_or-set_other ends.clients c d (Some now) None not) is)
  ];
}

port_puts : (ends : Ends) (c port : ℕ) (found : Option Place) → place_at ends c ≡ found → Stay ends (set_port_of ends c port found).ends
port_puts ends c port None at = all_stay ends
port_puts ends c port (Some place) at = puts ends c place (record place { address = record place.address { port = port } }) at (refl, refl)

line_puts : (ends : Ends) (c : ℕ) (event : Event) (found : Option Place) → place_at ends c ≡ found → Stay ends (client_step_of ends c event found).ends
line_puts ends c event None at = all_stay ends
line_puts ends c event (Some place) at =
    let line = client_line place.client place.recording event in
    puts ends c place (record place { client = client_after place.client line; recording = recording_after place.recording line }) at (line_same place.client place.recording event)

send_puts : (kept : Kept) (c : ℕ) (found : Option Place) → place_at kept.ends c ≡ found → Stay kept.ends (kept_send kept c found).kept.ends
send_puts kept c None at = all_stay kept.ends
send_puts kept c (Some place) at = puts kept.ends c place (record place { client = (speaks.emit_at (asking place.client place.recording)).client }) at (sends_same (asking place.client place.recording))

take_puts : (ends : Ends) (c : ℕ) (front : Front) (bytes : List ℕ) (found : Option Place) → place_at ends c ≡ found → Stay ends (client_takes ends c front bytes found).ends
take_puts ends c front bytes None at = all_stay ends
take_puts ends c front bytes (Some place) at =
    let taken = take_at place.client bytes in
    puts ends c place (record place { client = taken.client; recording = (note_taken place.recording place.client taken).recording }) at (hears_same place.client bytes)

arrive_puts : (ends : Ends) (number : ℕ) (sent : SentBytes) (direction : Direction) → Stay ends (arrive_at ends number sent direction).ends
arrive_puts ends number sent ToClient = take_puts ends sent.client (fronts.Deliver number) sent.bytes (place_at ends sent.client) refl
arrive_puts ends number sent (ToServer from) = by_server ends (hears.take_at ends.server from sent.bytes).server (take_stays ends.server from sent.bytes)

deliver_puts : (ends : Ends) (number : ℕ) (found : Option SentBytes) → Stay ends (deliver_at ends number found).ends
deliver_puts ends number None = all_stay ends
deliver_puts ends number (Some sent) = arrive_puts ends number sent sent.direction

handed_puts : (ends : Ends) (c : ℕ) (bytes : List ℕ) (found : Option Place) → Stay ends (hand_server_of ends c bytes found).ends
handed_puts ends c bytes None = all_stay ends
handed_puts ends c bytes (Some place) = by_server ends (hears.take_at ends.server place.address bytes).server (take_stays ends.server place.address bytes)

join_puts : (ends : Ends) (server : ServerState) (c : ℕ) (place : Place) (answer : Result (Unit {0}) SlotError) → SlotsStay ends.server server
    → (answer ≡ Ok tt → slot_at ends.server c ≡ None) → (answer ≡ Ok tt → is_some (slot_at server c) ≡ true) → Stay ends (joined (record ends { server = server }) c place answer).ends
join_puts ends server c place (Ok x) stays free taken = record {
  slots = stays;
  places = λ have. put_remains IsSamePlace same_place ends.clients c place (nobody have (place_at ends c) refl);
  have = λ have d is. elim (cases_eq d c) [
    | inl same ↦ rw same (taken refl)
    | inr not ↦ some_remains IsSameSlot (slot_at ends.server d) (slot_at server d) (stays d) (have d (subst (λ (found : Option Place). is_some found ≡ true) (get_or-set_other ends.clients c d (Some place) None not) is))
  ];
}
  where
    nobody : HaveSlots ends → (found : Option Place) → place_at ends c ≡ found → Remains IsSamePlace found (Some place)
    nobody have None at = tt
    nobody have (Some old) at =
        let is : is_some (slot_at ends.server c) ≡ true = have c (rw at refl) in
        let none : is_some (slot_at ends.server c) ≡ false = rw (free refl) refl in
        absurd cc
join_puts ends server c place (Err e) stays free taken = by_server ends server stays

-- a line about an entity
line_stays : (ends : Ends) (number : ℕ) (refusal : HandedIn) (step : ServerStep) → SlotsStay ends.server step.server
    → Stay ends (record ends { server = (in_range ends.server number refusal step).server })
line_stays ends number refusal step within =
    in_range_or (λ (done : ServerStep). Stay ends (record ends { server = done.server })) ends.server number refusal step (λ lt. by_server ends step.server within) (all_stay ends)

-- ---- every event

each_stays : (kept : Kept) (event : Event) → Stay kept.ends (kept_step kept event).kept.ends
unfolding kept_step line_of server_line
each_stays kept (events.Client c challenge qport dup address) =
    let added = add_client_at kept.ends.server c challenge qport address in
    let facts = joins kept.ends.server c challenge qport address in
    join_puts kept.ends added.server c (record { client = new_client kept.profile challenge qport dup; address = address; recording = None }) added.answer facts.stays facts.free facts.taken
each_stays kept (events.Port c port) = port_puts kept.ends c port (place_at kept.ends c) refl
each_stays kept (events.Map id feed) = by_server kept.ends (new_map_at kept.ends.server id feed).server (map_at_stays kept.ends.server id feed)
each_stays kept (events.Config index text) = by_server kept.ends (set_config_at kept.ends.server index text).server (config_stays kept.ends.server index text)
each_stays kept (events.Baseline state) =
    line_stays kept.ends state.number (handed.Baseline state.number (Err unset.OutOfRange)) (at_server.set_baseline kept.ends.server state) (all_slots kept.ends.server)
each_stays kept (events.Entity state) =
    line_stays kept.ends state.number (handed.Entity state.number (Err (record {}))) (at_server.set_entity kept.ends.server state) (all_slots kept.ends.server)
each_stays kept (events.Remove number) =
    line_stays kept.ends number (handed.Remove number (Err (record {}))) (at_server.remove_entity kept.ends.server number) (all_slots kept.ends.server)
each_stays kept (events.Player c player) =
    let change : SlotState → SlotState = λ slot. with_player kept.ends.server.profile slot player in
    by_server kept.ends (give kept.ends.server c change (slot_at kept.ends.server c)).server (gives kept.ends.server c change (λ slot. (refl, refl)) (slot_at kept.ends.server c) refl)
each_stays kept (events.Area c area) =
    let change : SlotState → SlotState = λ slot. with_area slot area.items in
    by_server kept.ends (give kept.ends.server c change (slot_at kept.ends.server c)).server (gives kept.ends.server c change (λ slot. (refl, refl)) (slot_at kept.ends.server c) refl)
each_stays kept (events.Say c text) = by_server kept.ends (say_at kept.ends.server c text).server (says kept.ends.server c text (slot_at kept.ends.server c) refl)
each_stays kept (events.TypeText c text) = line_puts kept.ends c (events.TypeText c text) (place_at kept.ends c) refl
each_stays kept (events.Move c one) = line_puts kept.ends c (events.Move c one) (place_at kept.ends c) refl
each_stays kept (events.Serve c) = by_server kept.ends (emit_at kept.ends.server c).server (emit_stays kept.ends.server c)
each_stays kept (events.Send c) = send_puts kept c (place_at kept.ends c) refl
each_stays kept (events.Deliver number) = deliver_puts kept.ends number (slice_get kept.datagrams (number - 1))
each_stays kept (events.RecordTo c name) = line_puts kept.ends c (events.RecordTo c name) (place_at kept.ends c) refl
each_stays kept (events.Stop c) = line_puts kept.ends c (events.Stop c) (place_at kept.ends c) refl
each_stays kept (events.Show c) = line_puts kept.ends c (events.Show c) (place_at kept.ends c) refl
each_stays kept (events.Toclient c bytes) = take_puts kept.ends c (fronts.Toclient c) bytes (place_at kept.ends c) refl
each_stays kept (events.Toserver c bytes) = handed_puts kept.ends c bytes (place_at kept.ends c)
each_stays kept event = record { slots = all_slots kept.ends.server; places = λ have. all_places kept.ends; have = λ have. have }

pub have_slots : (kept : Kept) (event : Event) → HaveSlots kept.ends → HaveSlots (kept_step kept event).kept.ends
have_slots kept event = (each_stays kept event).have

-- in the beginning nobody is anywhere
pub nobody_yet : (profile : Profile) (c : ℕ) → place_at (new_ends profile) c ≡ None
nobody_yet profile c = elim (cases_lt c (length (new_ends profile).clients)) [
  | inl lt ↦ get_or-replicate places c empty empty (subst (λ (count : ℕ). c < count) (length-replicate places empty) lt)
  | inr ge ↦ get_or-eq_default (new_ends profile).clients None ge
]
  where
    empty : Option Place
    empty = None

pub slots_are_kept : SlotsAreKept
slots_are_kept = record {
  opening = nobody_yet;
  free = λ server c challenge qport address. (joins server c challenge qport address).free;
  slots = λ kept event. (each_stays kept event).slots;
  places = λ kept event. (each_stays kept event).places;
  step = have_slots;
}
