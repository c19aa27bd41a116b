-- A message that is made and arrives whole.
use Rattle.std.proofs.Common.{◌≡◌, ℕ, zero, suc, ◌+◌, ◌-◌, ◌<◌, true, false, List, [], ◌∷◌, ◌++◌, length, Option, Some, None, refl, sym, ap, subst, ◌∙◌, arith}
use Rattle.std.specs.Prelude.{replicate, slice_get, slice_index_or, nat_lt, nat_le}
use Rattle.std.specs.List.{AllByRecursion, range_with_len}
use Rattle.std.specs.Option.{option_map}
use Rattle.std.proofs.Math.ListN.{length-set}
use Rattle.std.proofs.lemmas.List.{append-nil, length-append, length_push, map-append, append_assoc, get_or_append_left, get_or_push}
use Rattle.std.proofs.lemmas.List.FromFn.{length-range_with_len}
use Rattle.std.proofs.lemmas.Option.{slice_get-get_or, slice_get_within, get_or_from_slice_get}
use Rattle.std.proofs.lemmas.Bool.{lt-ltb, le-ltb, lt-leb}
use Rattle.q3_bits.specs.Bits.{message_bytes, message_length}
use Rattle.q3_bits.specs.Laws.{MessageIsBytes}
use Rattle.q3_profile.specs.declared.profile.Profile.{Profile}
use Rattle.q3_script.specs.declared.event.Event.{Event}
use Rattle.q3_script.specs.declared.event.Event.TheVariants as events
use Rattle.q3_schedules.specs.Schedules.{IsScheduled}
use Rattle.q3_entity_ring.specs.Snapshot.{Snapshot}
use Rattle.q3_frames.specs.Frames.{FramesState}
use Rattle.q3_clstate.specs.declared.applied.Applied.{Applied as AppliedSo}
use Rattle.q3_chan.specs.declared.side.Side.TheVariants.{Server}
use Rattle.q3_chan.specs.Datagrams.{sequence_end, longest_message, piece_count, last_index}
use Rattle.q3_chan.specs.Laws.{TaggedDoes, SideFrontStays}
use Rattle.q3_chan.specs.Sending.{Sending, UnderWay, left_of, next_of}
use Rattle.q3_clstate.specs.declared.applied.SnapOutcome.TheVariants.{Accepted}
use Rattle.q3_slot.specs.declared.answer.Emitted.TheVariants as emitted
use Rattle.q3_built.specs.Built.{Built, number_of, built_bits, built_bytes}
use Rattle.q3_slot.specs.Slot.{SlotState}
use Rattle.q3_slot.specs.Emitting.{SlotEmission, next_snapshot, next_frames, most_placed, hand_out, emit_slot}
use Rattle.q3_server.specs.Server.{ServerState, places, slot_at, emission_at, emit_at}
use Rattle.q3_client.specs.Client.{ClientState}
use Rattle.q3_report.specs.Answers.{snapshot_in as shown_in}
use Rattle.q3_world.specs.declared.places.Place.{Place}
use Rattle.q3_world.specs.Ends.{client_at, client_of, line_of, place_at}
use Rattle.q3_world.specs.Kept.{Kept, opening_kept, kept_step, kept_after}
use Rattle.q3_world.specs.World.{Tag, Whole, History, no_history, no_message, history_at, with_built, built_at, serve, step, after, opening, Played}
use Rattle.q3_world.specs.StandsFor.{IsChecked, snapshot_in}
use Rattle.q3_world.specs.ByTags.{kept_then, whole_then, BytesFollowTags}
use Rattle.q3_world.specs.Answering.{outcome_of, outcome_in}
use Rattle.q3_schedules.specs.Schedules.{heard_of, history_then, ArePieces, deliveries, serve_and_deliver, built_next, datagrams_of, MayBegin, InOrderIsAccepted, AppliedWasBuilt, ServedIsShown, since_then, applied_then}
use Rattle.q3_world.proofs.Growth.{noted_same}
use Rattle.q3_world.proofs.Clients.{slot_begun}
use Rattle.q3_world.proofs.Holding.{Holds, with_server_of, has_client}
use Rattle.q3_world.proofs.HandedOut.{slot_handed, handed_tag}
use Rattle.q3_schedules.proofs.EverySchedule.{shows}
use Rattle.q3_schedules.proofs.InOrder.{reached_none, reached_all, both_are}
use Rattle.q3_world.proofs.OnePlace.{set_there}
use Rattle.q3_world.specs.Games.{accepted_since}
use Rattle.q3_clstate.specs.declared.applied.SnapOutcome.{SnapOutcome}
use Rattle.q3_schedules.proofs.Stood.{Stood, after_both, holds_of, place_of, stood}

-- ---- one datagram more

-- the world after an emission of a slot that has this piece left: a message was begun, if one was, and the piece has a tag
abbrev with_handed : Whole → ℕ → SlotState → UnderWay → FramesState → Option Built → Whole
with_handed whole c slot left frames began =
    with_server_of whole c (slot_handed slot) whole.ends.server.map frames (with_built (history_at whole.histories c) began) (whole.sent ++ handed_tag c slot left ∷ [])

-- what was sent stays where more is sent
abbrev some_tag : Tag → Option Tag
some_tag tag = Some tag

sent_stays : (sent more : List Tag) (k : ℕ) (tag : Tag) → slice_get sent k ≡ Some tag → slice_get (sent ++ more) k ≡ Some tag
sent_stays sent more k tag at =
    let lt = slice_get_within sent k tag at in
    let longer = length-append sent more in
    slice_get-get_or (sent ++ more) k tag (omega (arith, lt, longer))
    ∙ ap some_tag (get_or_append_left sent more tag k lt ∙ get_or_from_slice_get sent k tag tag at)

sent_last : (sent : List Tag) (tag : Tag) → slice_get (sent ++ tag ∷ []) (length sent) ≡ Some tag
sent_last sent tag =
    let longer = length_push sent tag in
    slice_get-get_or (sent ++ tag ∷ []) (length sent) tag (omega (arith, longer)) ∙ ap some_tag (get_or_push sent tag tag (length sent) refl)

-- a world in which of a message for a client the piece of an index was handed out last
record HandedOut (c n : ℕ) (message : List ℕ) (whole : Whole) (index : ℕ) : Type 0 where
  slot : SlotState
  slots : length whole.ends.server.slots ≡ places
  found : slot_at whole.ends.server c ≡ Some slot
  number : slot.sending.number ≡ n
  left : slot.sending.under_way ≡ left_of (record { message = message; next = index })

handed_left : (sending : Sending) (left : UnderWay) → sending.under_way ≡ Some left
    → ((next_of sending).sending.number ≡ sending.number) × ((next_of sending).sending.under_way ≡ left_of left)
unfolding next_of
handed_left sending left way = rw way (refl, refl)

handed_out : (whole : Whole) (c : ℕ) (slot : SlotState) (left : UnderWay) (frames : FramesState) (began : Option Built) → c < places → length whole.ends.server.slots ≡ places
    → slot.sending.under_way ≡ Some left → HandedOut c slot.sending.number left.message (with_handed whole c slot left frames began) left.next
handed_out whole c slot left frames began lt slots way =
    let next = handed_left slot.sending left way in
    record {
      slot = slot_handed slot;
      slots = length-set whole.ends.server.slots c (Some (slot_handed slot)) ∙ slots;
      found = set_there whole.ends.server.slots c None (Some (slot_handed slot)) slots lt;
      number = next.0;
      left = next.1;
    }

-- a serve where a piece is left
serves_left : (profile : Profile) (whole : Whole) (c : ℕ) (slot : SlotState) (left : UnderWay) → slot_at whole.ends.server c ≡ Some slot
    → slot.sending.under_way ≡ Some left → (step profile whole (events.Serve c)).whole ≡ with_handed whole c slot left whole.ends.server.frames None
unfolding step line_of emit_at
serves_left profile whole c slot left found way = rw (found, way) refl

-- ---- all that are left

-- between these worlds the server made the pieces of a message from an index on, and nothing else
record MadeRest (c n index count : ℕ) (now then : Whole) : Type 0 where
  more : List Tag
  sent : then.sent ≡ now.sent ++ more
  clients : then.ends.clients ≡ now.ends.clients
  histories : then.histories ≡ now.histories
  pieces : ArePieces then.sent c n index (range_with_len (length now.sent + 1) count)

make_rest : (profile : Profile) (c n index count : ℕ) (message : List ℕ) (now : Whole) → c < places → index + 1 + count ≡ piece_count (length message)
    → HandedOut c n message now index → MadeRest c n (index + 1) count now (after profile now (replicate count (events.Serve c)))
unfolding after
make_rest profile c n index zero message now lt all handed =
    record { more = []; sent = sym (append-nil now.sent); clients = refl; histories = refl; pieces = tt }
make_rest profile c n index (suc count) message now lt all handed =
    let slot = handed.slot in
    let left : UnderWay = record { message = message; next = index + 1 } in
    let goes : nat_lt (index + 1) (piece_count (length message)) ≡ true = lt-ltb (index + 1) (piece_count (length message)) (omega (arith, all)) in
    let way : slot.sending.under_way ≡ Some left = handed.left ∙ (rw goes refl) in
    let next = with_handed now c slot left now.ends.server.frames None in
    let tag = handed_tag c slot left in
    let is : (step profile now (events.Serve c)).whole ≡ next = serves_left profile now c slot left handed.found way in
    let state : HandedOut c n message next (index + 1) =
    subst (λ (k : ℕ). HandedOut c k message next (index + 1)) handed.number (handed_out now c slot left now.ends.server.frames None lt handed.slots way) in
    let rest = make_rest profile c n (index + 1) count message next lt (omega (arith, all)) state in
    let then = after profile next (replicate count (events.Serve c)) in
    let longer : length next.sent ≡ length now.sent + 1 = length_push now.sent tag in
    let place : length now.sent ≡ length now.sent + 1 - 1 = omega arith in
    let at : slice_get then.sent (length now.sent + 1 - 1) ≡ Some tag =
    ap (λ (k : ℕ). slice_get then.sent k) (sym place)
    ∙ (ap (λ (sent : List Tag). slice_get sent (length now.sent)) rest.sent ∙ sent_stays next.sent rest.more (length now.sent) tag (sent_last now.sent tag)) in
    subst (λ (w : Whole). MadeRest c n (index + 1) (suc count) now (after profile w (replicate count (events.Serve c)))) (sym is)
    (record {
      more = tag ∷ rest.more;
      sent = rest.sent ∙ append_assoc now.sent (tag ∷ []) rest.more;
      clients = rest.clients;
      histories = rest.histories ∙ noted_same now.histories c;
      pieces = (tag, at, refl, refl, handed.number, refl, subst (λ (k : ℕ). ArePieces then.sent c n (index + 1 + 1) (range_with_len (k + 1) count)) longer rest.pieces);
    })

-- ---- a whole message

-- how many bytes a message has
abbrev BytesAreMany : Type 0
BytesAreMany = (profile : Profile) (built : Built) → length (built_bytes profile built) ≡ message_length (length (built_bits profile built))

-- the first datagram of a message
begins : (profile : Profile) (server : ServerState) (c : ℕ) (slot : SlotState) → BytesAreMany → MayBegin profile server c slot
    → emit_slot profile server.map server.frames c slot slot.sending.under_way
    ≡ hand_out (slot_begun profile slot (built_next profile server c slot)) server.map (next_frames server.map server.frames c slot) 0
    (emitted.Snapshot (slot.sending.number + 1) (number_of (built_next profile server c slot).base) (message_length (length (built_bits profile (built_next profile server c slot)))))
    (Some (built_next profile server c slot))
begins profile server c slot bytes may =
    let bits = built_bits profile (built_next profile server c slot) in
    let count = bytes profile (built_next profile server c slot) in
    let short = may.short in
    let goes : nat_le sequence_end (slot.sending.number + 1) ≡ false = lt-leb sequence_end (slot.sending.number + 1) may.fits in
    let room : nat_lt most_placed server.frames.placed ≡ false = le-ltb most_placed server.frames.placed may.placed in
    let few : nat_lt longest_message (message_length (length bits)) ≡ false = le-ltb longest_message (message_length (length bits)) (omega (arith, count, short)) in
    rw (may.idle, goes, room, may.clear, may.plays, few) refl

serves_first : (profile : Profile) (whole : Whole) (c : ℕ) (slot : SlotState) → BytesAreMany → whole.ends.server.profile ≡ profile → slot_at whole.ends.server c ≡ Some slot
    → MayBegin profile whole.ends.server c slot
    → (step profile whole (events.Serve c)).whole
    ≡ with_handed whole c (slot_begun profile slot (built_next profile whole.ends.server c slot)) (record { message = built_bytes profile (built_next profile whole.ends.server c slot); next = 0 })
    (next_frames whole.ends.server.map whole.ends.server.frames c slot) (Some (built_next profile whole.ends.server c slot))
unfolding step line_of emit_at
serves_first profile whole c slot bytes by found may =
    let server = whole.ends.server in
    rw found
    (ap (λ (e : SlotEmission). (serve whole c (emission_at server c e)).whole)
    (ap (λ (p : Profile). emit_slot p server.map server.frames c slot slot.sending.under_way) by ∙ begins profile server c slot bytes may))

-- the server made all pieces of the next message of a client
record Made (c n count first : ℕ) (next : Built) (start now : Whole) : Type 0 where
  clients : now.ends.clients ≡ start.ends.clients
  built : built_at (history_at now.histories c).built n ≡ next
  games : (history_at now.histories c).games ≡ (history_at start.histories c).games
  accepted : (history_at now.histories c).accepted ≡ (history_at start.histories c).accepted
  pieces : ArePieces now.sent c n 0 (range_with_len first count)

made : (profile : Profile) (start : Whole) (c count : ℕ) (slot : SlotState) → BytesAreMany → c < places → Holds profile start
    → slot_at start.ends.server c ≡ Some slot → length (history_at start.histories c).built ≡ slot.sending.number → MayBegin profile start.ends.server c slot
    → 1 + count ≡ piece_count (length (built_bytes profile (built_next profile start.ends.server c slot)))
    → Made c (slot.sending.number + 1) (suc count) (length start.sent + 1) (built_next profile start.ends.server c slot) start
    (after profile start (replicate (suc count) (events.Serve c)))
unfolding after
made profile start c count slot bytes lt holds found begun may all =
    let server = start.ends.server in
    let frames = next_frames server.map server.frames c slot in
    let next = built_next profile server c slot in
    let n = slot.sending.number + 1 in
    let message = built_bytes profile next in
    let left : UnderWay = record { message = message; next = 0 } in
    let begins_so = slot_begun profile slot next in
    let first = with_handed start c begins_so left frames (Some next) in
    let tag = handed_tag c begins_so left in
    let is : (step profile start (events.Serve c)).whole ≡ first = serves_first profile start c slot bytes holds.facts.by found may in
    let state : HandedOut c n message first 0 = handed_out start c begins_so left frames (Some next) lt holds.facts.slots refl in
    let rest = make_rest profile c n 0 count message first lt (omega (arith, all)) state in
    let then = after profile first (replicate count (events.Serve c)) in
    let longer : length first.sent ≡ length start.sent + 1 = length_push start.sent tag in
    let place : length start.sent ≡ length start.sent + 1 - 1 = omega arith in
    let at : slice_get then.sent (length start.sent + 1 - 1) ≡ Some tag =
    ap (λ (k : ℕ). slice_get then.sent k) (sym place)
    ∙ (ap (λ (sent : List Tag). slice_get sent (length start.sent)) rest.sent ∙ sent_stays first.sent rest.more (length start.sent) tag (sent_last start.sent tag)) in
    let noted = with_built (history_at start.histories c) (Some next) in
    let there = set_there start.histories c no_history noted holds.facts.histories lt in
    subst (λ (w : Whole). Made c n (suc count) (length start.sent + 1) next start (after profile w (replicate count (events.Serve c)))) (sym is)
    (record {
      clients = rest.clients;
      built = ap (λ (histories : List History). built_at (history_at histories c).built n) rest.histories
          ∙ (ap (λ (h : History). built_at h.built n) there ∙ get_or_push (history_at start.histories c).built next no_message (n - 1) (omega (arith, begun)));
      games = ap (λ (histories : List History). (history_at histories c).games) rest.histories ∙ ap (λ (h : History). h.games) there;
      accepted = ap (λ (histories : List History). (history_at histories c).accepted) rest.histories ∙ ap (λ (h : History). h.accepted) there;
      pieces = (tag, at, refl, refl, refl, refl, subst (λ (k : ℕ). ArePieces then.sent c n (0 + 1) (range_with_len (k + 1) count)) longer rest.pieces);
    })

-- ---- and its delivery

range_last : (first count : ℕ) → range_with_len first (suc count) ≡ range_with_len first count ++ (first + count) ∷ []
range_last first zero = let none : first ≡ first + 0 = omega arith in ap (λ (k : ℕ). k ∷ []) none
range_last first (suc count) =
    let same : first + 1 + count ≡ first + suc count = omega arith in
    ap (λ (numbers : List ℕ). first ∷ numbers) (range_last (first + 1) count ∙ ap (λ (k : ℕ). range_with_len (first + 1) count ++ k ∷ []) same)

are_both : (some others : List Event) → AllByRecursion IsScheduled (some ++ others) → AllByRecursion IsScheduled some × AllByRecursion IsScheduled others
are_both [] others are = (tt, are)
are_both (event ∷ some) others are = let rest = are_both some others are.1 in ((are.0, rest.0), rest.1)

kept_both : (kept : Kept) (some others : List Event) → kept_after kept (some ++ others) ≡ kept_after (kept_after kept some) others
unfolding kept_after
kept_both kept [] others = refl
kept_both kept (event ∷ some) others = kept_both (kept_step kept event).kept some others

kept_one : (kept : Kept) (event : Event) → kept_after kept (event ∷ []) ≡ (kept_step kept event).kept
unfolding kept_after
kept_one kept event = refl

abbrev some_snapshot : Snapshot → Option Snapshot
some_snapshot snapshot = Some snapshot

one_snapshot : (x y : Snapshot) → Some x ≡ Some y → x ≡ y
one_snapshot x y e = cc

shown : BytesFollowTags → InOrderIsAccepted → AppliedWasBuilt → BytesAreMany → TaggedDoes
    → (profile : Profile) (all : List Event) (c t : ℕ) (slot : SlotState) (client : ClientState) → IsChecked profile → AllByRecursion IsScheduled all
    → AllByRecursion IsScheduled (serve_and_deliver c (length (whole_then profile all).sent + 1) (suc t))
    → slot_at (whole_then profile all).ends.server c ≡ Some slot → client_at (whole_then profile all).ends c ≡ Some client
    → MayBegin profile (whole_then profile all).ends.server c slot
    → outcome_of profile.parse_ring (since_then profile all c) (built_next profile (whole_then profile all).ends.server c slot).base
    ≡ Accepted (number_of (built_next profile (whole_then profile all).ends.server c slot).base)
    → 1 + t ≡ piece_count (length (built_bytes profile (built_next profile (whole_then profile all).ends.server c slot)))
    → shown_in (kept_step (kept_then profile (all ++ serve_and_deliver c (length (whole_then profile all).sent + 1) (suc t))) (events.Show c)).answer
    ≡ Some (next_snapshot (whole_then profile all).ends.server.map slot)
shown law accepted applied bytes does profile all c t slot client is are made_so found there may there_base count =
    let start = whole_then profile all in
    let before : Stood profile (kept_then profile all) start = stood law profile all is are in
    let holds = holds_of profile (kept_then profile all) start before in
    let map = start.ends.server.map in
    let next = built_next profile start.ends.server c slot in
    let n = slot.sending.number + 1 in
    let first = length start.sent + 1 in
    let serves = replicate (suc t) (events.Serve c) in
    let numbers = range_with_len first t in
    let last = first + t in
    let is_range = range_last first t in
    let deliver_all : deliveries (range_with_len first (suc t)) ≡ deliveries numbers ++ events.Deliver last ∷ [] =
    ap (λ (k : List ℕ). deliveries k) is_range ∙ map-append (λ (k : ℕ). events.Deliver k) numbers (last ∷ []) in
    let parts = are_both serves (deliveries (range_with_len first (suc t))) made_so in
    let numbers_are = are_both (deliveries numbers) (events.Deliver last ∷ []) (subst (λ (l : List Event). AllByRecursion IsScheduled l) deliver_all parts.1) in
    let lt : c < places = let few = parts.0.0.0 in omega (arith, few) in
    let at_start = place_of (place_at start.ends c) client there in
    let place = at_start.0 in
    let had = has_client profile start c place lt at_start.1 holds in
    let slot_is : had.0 ≡ slot = some_one (sym had.1.slot_is ∙ found) in
    let begun : length (history_at start.histories c).built ≡ slot.sending.number = sym had.1.keeps.of_slot.sending.begun ∙ ap (λ (s : SlotState). s.sending.number) slot_is in
    let taken = had.1.joined.of_client.gathers.taken in
    let served = all ++ serves in
    let served_are = both_are all serves are parts.0 in
    let mid = whole_then profile served in
    let mid_is : mid ≡ after profile start serves = after_both profile (opening profile) all serves in
    let makes : Made c n (suc t) first next start mid = subst (λ (w : Whole). Made c n (suc t) first next start w) (sym mid_is)
    (made profile start c t slot bytes lt holds found begun may count) in
    let mid_found : place_at mid.ends c ≡ Some place = ap (λ (clients : List (Option Place)). slice_index_or clients c None) makes.clients ∙ at_start.1 in
    let pieces : ArePieces mid.sent c n 0 (numbers ++ last ∷ []) = subst (λ (k : List ℕ). ArePieces mid.sent c n 0 k) is_range makes.pieces in
    let many = length-range_with_len first t in
    let index : length numbers ≡ last_index (built_bytes profile (built_at (history_then profile served c).built n)) =
    subst (λ (b : Built). length numbers ≡ last_index (built_bytes profile b)) (sym makes.built) (omega (arith, many, count)) in
    let answer = accepted profile served c n last numbers place.client is served_are numbers_are.0 (ap (λ (o : Option Place). option_map client_of o) mid_found) (omega (arith, taken, begun)) pieces index in
    let arrived = served ++ deliveries numbers in
    let arrived_are = both_are served (deliveries numbers) served_are numbers_are.0 in
    let mid_stands : Stood profile (kept_then profile served) mid = stood law profile served is served_are in
    let g = place.client.gathering in
    let at_mid = reached_none profile mid c n place (holds_of profile (kept_then profile served) mid mid_stands) mid_found in
    let reached = (reached_all does profile mid mid c n 0 g numbers last lt pieces at_mid).0 in
    let then_is : whole_then profile arrived ≡ after profile mid (deliveries numbers) = after_both profile (opening profile) served (deliveries numbers) in
    let built_is : built_at (history_then profile arrived c).built n ≡ next =
    ap (λ (w : Whole). built_at (history_at w.histories c).built n) then_is ∙ (ap (λ (b : List Built). built_at b n) reached.built ∙ makes.built) in
    let applied_so : AppliedSo = applied_then profile served c n in
    let since_is : since_then profile served c ≡ since_then profile all c =
    ap (λ (g : List Played). accepted_since g (history_at mid.histories c).accepted) makes.games
    ∙ ap (λ (a : List Snapshot). accepted_since (history_at start.histories c).games a) makes.accepted in
    let outcome : List Snapshot → Built → SnapOutcome = λ since b. outcome_in profile.parse_ring since b.base b.message.section in
    let accepts : applied_so.snap ≡ Accepted (number_of next.base) =
    ap (λ (a : List Snapshot). outcome a (built_at (history_then profile served c).built n)) since_is ∙ (ap (λ (b : Built). outcome (since_then profile all c) b) makes.built ∙ there_base) in
    let shows_so = (applied profile arrived last c applied_so (heard_of (history_then profile served c) n) is arrived_are answer).3 (number_of next.base) accepts in
    let snapshot = shows_so.0 in
    let same : snapshot ≡ next_snapshot map slot =
    one_snapshot snapshot (next_snapshot map slot) (sym shows_so.3.2
    ∙ (ap (λ (k : ℕ). snapshot_in (built_at (history_then profile arrived c).built k).message.section) shows_so.2
    ∙ ap (λ (b : Built). snapshot_in b.message.section) built_is)) in
    let kept_is : kept_then profile (all ++ serve_and_deliver c first (suc t)) ≡ (kept_step (kept_then profile arrived) (events.Deliver last)).kept =
    kept_both (opening_kept profile) all (serve_and_deliver c first (suc t))
    ∙ (kept_both (kept_then profile all) serves (deliveries (range_with_len first (suc t)))
    ∙ (ap (λ (k : Kept). kept_after k (deliveries (range_with_len first (suc t)))) (sym (kept_both (opening_kept profile) all serves))
    ∙ (ap (λ (l : List Event). kept_after (kept_then profile served) l) deliver_all
    ∙ (kept_both (kept_then profile served) (deliveries numbers) (events.Deliver last ∷ [])
    ∙ (ap (λ (k : Kept). kept_after k (events.Deliver last ∷ [])) (sym (kept_both (opening_kept profile) served (deliveries numbers)))
    ∙ kept_one (kept_then profile arrived) (events.Deliver last)))))) in
    ap (λ (k : Kept). shown_in (kept_step k (events.Show c)).answer) kept_is
    ∙ (shows (kept_step (kept_then profile arrived) (events.Deliver last)).kept c ∙ (shows_so.1 ∙ ap some_snapshot same))
  where
    some_one : {some other : SlotState} → Some some ≡ Some other → some ≡ other
    some_one same = cc

pub served_is_shown : BytesFollowTags → InOrderIsAccepted → AppliedWasBuilt → MessageIsBytes → SideFrontStays → TaggedDoes → ServedIsShown
served_is_shown law accepted applied bytes front does profile all c slot client is are made_so found there may there_base =
    let server = (whole_then profile all).ends.server in
    let first = length (whole_then profile all).sent + 1 in
    let count = datagrams_of profile server c slot in
    let t = last_index (built_bytes profile (built_next profile server c slot)) in
    let one : suc t ≡ count = omega arith in
    let more : 1 + t ≡ count = omega arith in
    subst (λ (k : ℕ). shown_in (kept_step (kept_then profile (all ++ serve_and_deliver c first k)) (events.Show c)).answer ≡ Some (next_snapshot server.map slot)) one
    (shown law accepted applied (λ p b. (front Server b.key (message_bytes (built_bits p b))).0 ∙ (bytes (built_bits p b)).0) does profile all c t slot client is are (subst (λ (k : ℕ). AllByRecursion IsScheduled (serve_and_deliver c first k)) (sym one) made_so)
    found there may there_base more)
