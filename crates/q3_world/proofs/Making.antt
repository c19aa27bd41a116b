-- Both ends make datagrams by bytes as by tags.
use Rattle.std.proofs.Common.{◌≡◌, ℕ, ◌+◌, ◌^◌, ◌<◌, false, List, length, Option, Some, None, Ok, refl, sym, ap, subst, ◌∙◌, inl, inr, arith}
use Rattle.std.specs.Prelude.{map, nat_le, nat_lt, true}
use Rattle.std.proofs.lemmas.List.{length-map, map_push, set-set}
use Rattle.std.proofs.lemmas.Bool.{cases_Bool, cond_both, leb-false, ltb-false}
use Rattle.q3_bits.specs.Bits.{message_length}
use Rattle.q3_profile.specs.declared.profile.Profile.{Profile}
use Rattle.q3_svmsg.specs.declared.error.Illegible.{Illegible}
use Rattle.q3_chan.specs.Datagrams.{server_form, client_header, sequence_end, longest_message}
use Rattle.q3_chan.specs.Sending.{UnderWay}
use Rattle.q3_chan.specs.Checks.{check_for}
use Rattle.q3_slot.specs.declared.answer.Emitted.{Emitted}
use Rattle.q3_slot.specs.declared.answer.Emitted.TheVariants as emitted
use Rattle.q3_client.specs.declared.client.Sent.{Sent}
use Rattle.q3_client.specs.declared.client.Sent.TheVariants as answered_sent
use Rattle.q3_client.specs.Client.{ClientState}
use Rattle.q3_client.specs.Sending as speaks
use Rattle.q3_client.specs.Sending.{said_bits, said_bytes, next_message, next_said, is_unclear as is_said_unclear}
use Rattle.q3_built.specs.Built.{IsArea, is_unclear, IsBuilt, built_bits, built_bytes}
use Rattle.q3_slot.specs.Slot.{SlotState, primed}
use Rattle.q3_slot.specs.Emitting.{SlotEmission, next_frames, begun_next, emit_built, most_placed, emit_new, emit_slot, next_game, telling_of, emit_game, emit_next, next_snapshot, next_game_built}
use Rattle.q3_server.specs.Server.{ServerState, Emission, places, slot_at, with_slot, emission_at, emit_from}
use Rattle.q3_window.specs.Outgoing.{IsOutgoing}
use Rattle.q3_slot.specs.Standing.{IsSlot}
use Rattle.q3_server.specs.Standing as server_has
use Rattle.q3_client.specs.Standing.{IsClient}
use Rattle.q3_client.specs.Sending.{IsSaid}
use Rattle.q3_world.proofs.Commanded.{MayName}
use Rattle.q3_world.specs.declared.places.Place.{Place}
use Rattle.q3_report.specs.Answers.{SentOut}
use Rattle.q3_ends.specs.Recording.{asking}
use Rattle.q3_world.specs.declared.made.Direction.TheVariants.{ToServer}
use Rattle.q3_world.specs.Ends.{place_at, with_place}
use Rattle.q3_world.specs.Kept.{datagrams_after, kept_serve, kept_said, kept_send}
use Rattle.q3_world.specs.World.{Whole, history_at, serve, say, send, sent_after, with_built, with_history, with_said, bytes_of}
use Rattle.q3_world.proofs.Clients.{slot_begun, client_begun, asked_has, next_base, next_number}
use Rattle.q3_world.proofs.Holding.{Holds, has_slot, has_client, same_server, Has}
use Rattle.q3_world.proofs.OnePlace.{set_there}
use Rattle.q3_world.proofs.Recorded.{holds_asking}
use Rattle.q3_world.proofs.Given.{joined_stays}
use Rattle.q3_world.proofs.HandedOut.{Holds-handed, Holds-begun, Holds-too_long, handed_tag, Holds-goes, Holds-said, said_tag, executed_by_slot}
use Rattle.q3_world.proofs.GamesMaps.{AreMapped-begun}
use Rattle.q3_world.proofs.StepsByTags.{Cited, kept_of, Agree, found_or, unnoted, left_alone}
use Rattle.q3_map.specs.Map.{begins_game}
use Rattle.q3_slot.specs.declared.stage.ClientStage.TheVariants.{Primed}
use Rattle.q3_world.proofs.Knowing.{section_is}
use Rattle.q3_world.proofs.Bases.{KeepsFrames-built, KeepsFrames-game, frames_begun, frames_of_game}
use Rattle.q3_world.proofs.Mapped.{has_snapshot, mapped_game, mapped_snapshot, mapped_said, asked_base}

-- ---- serving

abbrev pub Served : Profile → Whole → ℕ → Emission → Type 0
Served profile whole c emission = Agree profile (kept_serve (kept_of profile whole) c emission) (serve whole c emission)

-- nothing was begun or sent, and the server is as it was
pub quiet : (profile : Profile) (whole : Whole) (c : ℕ) (server : ServerState) (answer : Emitted)
    → server ≡ whole.ends.server → Holds profile whole
    → Served profile whole c (record { server = server; answer = answer; began = None; piece = None })
quiet profile whole c server answer same_as holds =
    let count = length-map whole.sent bytes_of in
    subst (λ (s : ServerState). Served profile whole c (record { server = s; answer = answer; began = None; piece = None })) (sym same_as)
    (record { same = rw count refl; holds = unnoted profile whole c holds })

-- a client as the server keeps it: a gamestate is owed on a map alone
is_joined : (profile : Profile) (whole : Whole) (c : ℕ) (slot : SlotState) (place : Place) → Has profile whole c slot place → server_has.IsJoined profile whole.ends.server.map.id slot
is_joined profile whole c slot place had = record {
  player = had.keeps.of_slot.player;
  area = had.keeps.of_slot.area;
  owed = λ owed. (had.joined.mapped.stands.owed owed).1;
  sends = had.keeps.of_slot.sending.header_is;
  hears = had.keeps.of_slot.from;
}

-- and what its slot has
slot_stands : (profile : Profile) (slot : SlotState) → IsOutgoing slot.issued → IsArea slot.area.items → MayName slot.executed → IsSlot slot
slot_stands profile slot window area names = record { window = window; executed = names.number; last = names.text; area = area }

-- the message with the next snapshot is one that a server builds
next_is_built : (profile : Profile) (whole : Whole) (c : ℕ) (slot : SlotState) (place : Place) → Cited profile → c < places → Has profile whole c slot place
    → slot.sending.number + 1 < sequence_end → is_unclear profile slot.executed.executed ≡ false → Holds profile whole
    → IsBuilt profile slot.challenge (slot.sending.number + 1) (begun_next profile whole.ends.server.map whole.ends.server.frames c slot)
next_is_built profile whole c slot place cited lt had fits clear holds =
    let map = whole.ends.server.map in
    let frames = whole.ends.server.frames in
    let history = history_at whole.histories c in
    let keeps = had.keeps.of_slot in
    let joined = had.joined in
    let names = executed_by_slot profile slot place.client history had.keeps.of_client joined.commanded in
    cited.below.begins.snapshot profile map slot cited.codec holds.facts.map (is_joined profile whole c slot place had) (slot_stands profile slot keeps.window keeps.area names)
    frames c holds.facts.frames.snapshots fits clear

-- a snapshot is begun, unless it is too long
pub served_built : (profile : Profile) (whole : Whole) (c : ℕ) (slot : SlotState) → Cited profile → c < places → slot_at whole.ends.server c ≡ Some slot
    → slot.sending.number + 1 < sequence_end → is_unclear profile slot.executed.executed ≡ false → Holds profile whole
    → Served profile whole c (emission_at whole.ends.server c (emit_built profile slot whole.ends.server.map (next_frames whole.ends.server.map whole.ends.server.frames c slot)
    (begun_next profile whole.ends.server.map whole.ends.server.frames c slot)))
served_built profile whole c slot cited lt is fits clear holds =
    let server = whole.ends.server in
    let map = server.map in
    let frames = server.frames in
    let history = history_at whole.histories c in
    let next = begun_next profile map frames c slot in
    let bits = built_bits profile next in
    let first : UnderWay = record { message = built_bytes profile next; next = 0 } in
    let had = has_slot profile whole c slot lt is holds in
    let place = had.0 in
    let client = place.client in
    let joined = had.1.joined in
    let begun = had.1.keeps.of_slot.sending.begun in
    let number = next_number map slot in
    let are = holds.facts.frames.each c lt in
    let has = asked_has slot history.said history.built history.accepted joined.of_client.accepted joined.asked in
    let base = next_base cited.below.server profile map frames c slot history.built begun are has in
    let names = executed_by_slot profile slot client history had.1.keeps.of_client joined.commanded in
    let count = length-map whole.sent bytes_of in
    let built = next_is_built profile whole c slot place cited lt had.1 fits clear holds in
    let snapshot = section_is profile slot.challenge (slot.sending.number + 1) next (next_snapshot map slot) built refl in
    elim (cases_Bool (nat_lt longest_message (message_length (length bits)))) [
      | inl long ↦ rw long (record { same = rw count refl; holds = Holds-too_long cited.below.server profile whole c slot lt is snapshot holds })
      | inr short ↦
          let may = cited.below.sent.of_built profile slot.challenge (slot.sending.number + 1) next built (ltb-false _ _ short) in
          let pushed = map_push bytes_of whole.sent (handed_tag c (slot_begun profile slot next) first) in
          let kept = KeepsFrames-built cited.below.server profile frames whole.histories c (with_built history (Some next)) (next_snapshot map slot) lt holds.facts.histories snapshot
          (frames_begun cited.below.server frames c history.built (telling_of profile slot) map.baselines next.base (next_snapshot map slot) (omega (arith, begun, number)) are) holds.facts.frames in
          let mapped = mapped_snapshot map slot client history next (has_snapshot next refl) refl refl (asked_base slot next history.built (slot.sending.number + 1) base) joined.mapped in
          rw short (record {
            same = rw (count, pushed) refl;
            holds = Holds-begun cited.below.windows profile whole c slot place slot.stage slot.owed next map (next_frames map frames c slot) first cited.below.sends cited.below.gathers lt had.1 fits built may refl refl base refl
                holds.facts.map (λ s e h joined. joined) kept mapped holds;
          })
    ]

-- a gamestate is begun, unless it is too long
pub served_game : (profile : Profile) (whole : Whole) (c : ℕ) (slot : SlotState) → Cited profile → c < places → slot_at whole.ends.server c ≡ Some slot → slot.owed ≡ true
    → slot.sending.number + 1 < sequence_end → is_unclear profile slot.executed.executed ≡ false → Holds profile whole
    → Served profile whole c (emission_at whole.ends.server c (emit_game profile slot whole.ends.server.map whole.ends.server.frames (next_game_built profile whole.ends.server.map c slot)))
served_game profile whole c slot cited lt is owed fits clear holds =
    let server = whole.ends.server in
    let map = server.map in
    let frames = server.frames in
    let history = history_at whole.histories c in
    let next = next_game_built profile map c slot in
    let bits = built_bits profile next in
    let n = slot.sending.number + 1 in
    let stands = primed slot n in
    let first : UnderWay = record { message = built_bytes profile next; next = 0 } in
    let had = has_slot profile whole c slot lt is holds in
    let place = had.0 in
    let client = place.client in
    let joined = had.1.joined in
    let keeps = had.1.keeps in
    let begun = keeps.of_slot.sending.begun in
    let names = executed_by_slot profile slot client history keeps.of_client joined.commanded in
    let count = length-map whole.sent bytes_of in
    elim (cases_Bool (nat_lt longest_message (message_length (length bits)))) [
      | inl long ↦ rw long (quiet profile whole c (with_slot server c slot) emitted.Overlong (same_server server c slot is) holds)
      | inr short ↦
          let pushed = map_push bytes_of whole.sent (handed_tag c (slot_begun profile stands next) first) in
          let other = joined.mapped.stands.owed owed in
          let built = cited.below.begins.game profile map slot cited.codec holds.facts.map (is_joined profile whole c slot place had.1) (slot_stands profile slot keeps.of_slot.window keeps.of_slot.area names)
          c (omega (arith, lt)) owed clear in
          let may = cited.below.sent.of_built profile slot.challenge n next built (ltb-false _ _ short) in
          let kept = KeepsFrames-game profile frames whole.histories c (with_built history (Some next)) lt holds.facts.histories
          (frames_of_game frames c history.built next refl (holds.facts.frames.each c lt)) holds.facts.frames in
          let mapped = mapped_game map slot client history next (next_game map c slot) owed refl refl (holds.facts.map.tells other.1) refl refl begun joined.of_client.gathers.taken
          joined.mapped in
          rw short (record {
            same = rw (count, pushed) refl;
            holds = Holds-begun cited.below.windows profile whole c slot place (Primed n) false next (begins_game map) frames first cited.below.sends cited.below.gathers lt had.1 fits built may refl refl tt refl
                (cited.below.maps.begun profile map holds.facts.map) (joined_stays profile map (begins_game map) (AreMapped-begun map)) kept mapped holds;
          })
    ]

-- the next message: the gamestate where one is owed, else a snapshot
pub served_next : (profile : Profile) (whole : Whole) (c : ℕ) (slot : SlotState) → Cited profile → c < places → slot_at whole.ends.server c ≡ Some slot
    → slot.sending.number + 1 < sequence_end → is_unclear profile slot.executed.executed ≡ false → Holds profile whole
    → Served profile whole c (emission_at whole.ends.server c (emit_next profile whole.ends.server.map whole.ends.server.frames c slot))
served_next profile whole c slot cited lt is fits clear holds =
    let server = whole.ends.server in
    cond_both slot.owed (emit_game profile slot server.map server.frames (next_game_built profile server.map c slot))
    (emit_built profile slot server.map (next_frames server.map server.frames c slot) (begun_next profile server.map server.frames c slot))
    (λ (emission : SlotEmission). Served profile whole c (emission_at server c emission))
    (λ owed. served_game profile whole c slot cited lt is owed fits clear holds)
    (λ none. served_built profile whole c slot cited lt is fits clear holds)

-- the next message, unless message numbers have ended or too many entities were placed, or its leading long would be hidden
pub served_new : (profile : Profile) (whole : Whole) (c : ℕ) (slot : SlotState) → Cited profile → c < places → slot_at whole.ends.server c ≡ Some slot → Holds profile whole
    → Served profile whole c (emission_at whole.ends.server c (emit_new profile whole.ends.server.map whole.ends.server.frames c slot))
served_new profile whole c slot cited lt is holds =
    let server = whole.ends.server in
    elim (cases_Bool (nat_le sequence_end (slot.sending.number + 1))) [
      | inl ended ↦ rw ended (quiet profile whole c (with_slot server c slot) emitted.SequenceEnd (same_server server c slot is) holds)
      | inr goes ↦ elim (cases_Bool (nat_lt most_placed server.frames.placed)) [
        | inl full ↦ rw (goes, full) (quiet profile whole c (with_slot server c slot) emitted.SequenceEnd (same_server server c slot is) holds)
        | inr room ↦ elim (cases_Bool (is_unclear profile slot.executed.executed)) [
          | inl hidden ↦ rw (goes, room, hidden) (quiet profile whole c (with_slot server c slot) emitted.Unclear (same_server server c slot is) holds)
          | inr clear ↦ rw (goes, room, clear) (served_next profile whole c slot cited lt is (leb-false sequence_end (slot.sending.number + 1) goes) clear holds)
        ]
      ]
    ]

-- what is left of a message goes first
pub served_from : (profile : Profile) (whole : Whole) (c : ℕ) (slot : SlotState) (left : Option UnderWay) → Cited profile → c < places
    → slot_at whole.ends.server c ≡ Some slot → slot.sending.under_way ≡ left → Holds profile whole
    → Served profile whole c (emission_at whole.ends.server c (emit_slot profile whole.ends.server.map whole.ends.server.frames c slot left))
served_from profile whole c slot None cited lt is none holds = served_new profile whole c slot cited lt is holds
served_from profile whole c slot (Some left) cited lt is some holds =
    let count = length-map whole.sent bytes_of in
    let pushed = map_push bytes_of whole.sent (handed_tag c slot left) in
    record { same = rw (count, pushed) refl; holds = Holds-handed profile whole c slot left cited.below.sends lt is some holds }

pub served : (profile : Profile) (whole : Whole) (c : ℕ) → Cited profile → c < places → Holds profile whole
    → Served profile whole c (emit_from whole.ends.server c (slot_at whole.ends.server c))
served profile whole c cited lt holds =
    elim (found_or (slot_at whole.ends.server c)) [
      | inl none ↦ rw none (quiet profile whole c whole.ends.server emitted.NoClient refl holds)
      | inr found ↦ rw found.1
          (subst (λ (p : Profile). Served profile whole c (emission_at whole.ends.server c (emit_slot p whole.ends.server.map whole.ends.server.frames c found.0 found.0.sending.under_way))) (sym holds.facts.by)
          (served_from profile whole c found.0 found.0.sending.under_way cited lt found.1 refl holds))
    ]

-- ---- sending

abbrev pub SaidSo : Profile → Whole → ℕ → Place → speaks.Emission → Type 0
SaidSo profile whole c place emission = Agree profile (kept_said (kept_of profile whole) c place emission) (say whole c place emission)

-- nothing was begun or sent, and the client is as it was
pub silent : (profile : Profile) (whole : Whole) (c : ℕ) (place : Place) (answer : Sent) → place_at whole.ends c ≡ Some place → Holds profile whole
    → SaidSo profile whole c place (speaks.nothing place.client answer)
silent profile whole c place answer found holds =
    let count = length-map whole.sent bytes_of in
    record { same = rw count refl; holds = left_alone profile whole c place whole.sent found refl holds }

-- what a client took fits a long
pub taken_fits : (profile : Profile) (whole : Whole) (c : ℕ) (place : Place) → c < places → place_at whole.ends c ≡ Some place → Holds profile whole → place.client.gathering.taken < 2 ^ 32
taken_fits profile whole c place lt found holds =
    let had = has_client profile whole c place lt found holds in
    let short = had.1.keeps.of_slot.sending.short in
    let taken = had.1.joined.of_client.gathers.taken in
    omega (arith, short, taken)

-- a client as it is well formed
is_client : (profile : Profile) (whole : Whole) (c : ℕ) (place : Place) → c < places → place_at whole.ends c ≡ Some place → Holds profile whole → IsClient place.client
is_client profile whole c place lt found holds =
    let keeps = (has_client profile whole c place lt found holds).1.keeps.of_client in
    let client = place.client in
    let by = sym keeps.by in
    record {
      applied = keeps.applied;
      taken = taken_fits profile whole c place lt found holds;
      window = keeps.window;
      few = keeps.moves.few;
      moves = record { each = keeps.moves.each };
      sends = keeps.sending.header_is
          ∙ (ap (client_header (check_for profile.protocol client.challenge)) (sym keeps.qport)
          ∙ ap (λ (p : Profile). client_header (check_for p.protocol client.challenge) client.qport) by);
      hears = keeps.from ∙ ap (λ (p : Profile). server_form (check_for p.protocol client.challenge)) by;
    }

-- a message is begun, unless it is too long
pub said_text : (profile : Profile) (whole : Whole) (c : ℕ) (place : Place) → Cited profile → c < places → place_at whole.ends c ≡ Some place
    → place.client.sending.number + 1 < sequence_end → is_said_unclear profile (next_message place.client) ≡ false → Holds profile whole
    → SaidSo profile whole c place (speaks.emit_bits place.client (next_said place.client) (said_bits profile (next_said place.client)))
said_text profile whole c place cited lt found fits clear holds =
    let next = next_said place.client in
    let bits = said_bits profile next in
    let first : UnderWay = record { message = said_bytes profile next; next = 0 } in
    let had = has_client profile whole c place lt found holds in
    let keeps = had.1.keeps.of_client in
    let is = is_client profile whole c place lt found holds in
    let said_is : IsSaid profile place.client.challenge next = subst (λ (p : Profile). IsSaid p place.client.challenge next) keeps.by
    (cited.below.says.next place.client is (subst (λ (p : Profile). is_said_unclear p (next_message place.client) ≡ false) (sym keeps.by) clear)) in
    elim (cases_Bool (nat_lt longest_message (message_length (length bits)))) [
      | inl long ↦ rw long (silent profile whole c place answered_sent.Overlong found holds)
      | inr short ↦
          let may = cited.below.sent.of_said profile place.client.challenge next said_is (ltb-false _ _ short) in
          let count = length-map whole.sent bytes_of in
          let pushed = map_push bytes_of whole.sent (said_tag c (place.address) (client_begun profile place.client) first) in
          rw short (record {
            same = rw (count, pushed) refl;
            holds = Holds-said cited.below.windows profile whole c had.0 place first cited.below.sends cited.below.gathers lt had.1 refl fits said_is may
                (mapped_said whole.ends.server.map had.0 place.client (history_at whole.histories c) had.1.joined.of_client.asks.0 had.1.joined.since had.1.joined.mapped) holds;
          })
    ]

-- the next message, unless message numbers have ended, or its leading longs would be hidden
pub said_new : (profile : Profile) (whole : Whole) (c : ℕ) (place : Place) → Cited profile → c < places → place_at whole.ends c ≡ Some place → Holds profile whole
    → SaidSo profile whole c place (speaks.emit_new place.client)
said_new profile whole c place cited lt found holds =
    let had = has_client profile whole c place lt found holds in
    elim (cases_Bool (nat_le sequence_end (place.client.sending.number + 1))) [
      | inl ended ↦ rw ended (silent profile whole c place answered_sent.SequenceEnd found holds)
      | inr goes ↦ elim (cases_Bool (is_said_unclear place.client.state.profile (next_message place.client))) [
        | inl hidden ↦ rw (goes, hidden) (silent profile whole c place answered_sent.Unclear found holds)
        | inr clear ↦
            let by = had.1.keeps.of_client.by in
            let clear_so : is_said_unclear profile (next_message place.client) ≡ false = subst (λ (p : Profile). is_said_unclear p (next_message place.client) ≡ false) by clear in
            rw (goes, clear)
            (subst (λ (p : Profile). SaidSo profile whole c place (speaks.emit_bits place.client (next_said place.client) (said_bits p (next_said place.client)))) (sym by)
            (said_text profile whole c place cited lt found (leb-false sequence_end (place.client.sending.number + 1) goes) clear_so holds))
      ]
    ]

-- what is left of a message goes first
pub said_left : (profile : Profile) (whole : Whole) (c : ℕ) (place : Place) (left : Option UnderWay) → Cited profile → c < places
    → place_at whole.ends c ≡ Some place → place.client.sending.under_way ≡ left → Holds profile whole → SaidSo profile whole c place (speaks.emit_left place.client left)
said_left profile whole c place None cited lt found none holds = said_new profile whole c place cited lt found holds
said_left profile whole c place (Some left) cited lt found some holds =
    let count = length-map whole.sent bytes_of in
    let pushed = map_push bytes_of whole.sent (said_tag c (place.address) place.client left) in
    record { same = rw (count, pushed) refl; holds = Holds-goes profile whole c place left cited.below.sends lt found some holds }

-- what a client makes at a place with another end of it is what it makes at its own place
said_there : (profile : Profile) (whole : Whole) (c : ℕ) (place : Place) (client : ClientState) (emission : speaks.Emission)
    → SaidSo profile (record whole { ends = with_place whole.ends c (record place { client = client }) }) c (record place { client = client }) emission
    → SaidSo profile whole c place emission
said_there profile whole c place client emission said =
    let there : Place = record place { client = client } in
    let then : Place = record place { client = emission.client } in
    subst (λ (clients : List (Option Place)).
    Agree profile
    (record {
      kept = record (kept_of profile whole) {
        ends = record whole.ends { clients = clients };
        datagrams = datagrams_after (map bytes_of whole.sent) c (ToServer place.address) emission.piece;
      };
      answer = SentOut c (Ok emission.answer) (length (map bytes_of whole.sent) + 1);
    })
    (record {
      whole = record whole {
        ends = record whole.ends { clients = clients };
        histories = with_history whole.histories c (with_said (history_at whole.histories c) emission.began);
        sent = sent_after whole.sent c (ToServer place.address) emission.piece;
      };
      answer = SentOut c (Ok emission.answer) (length whole.sent + 1);
    }))
    (set-set whole.ends.clients c (Some there) (Some then)) said

pub sends_agree : (profile : Profile) (whole : Whole) (c : ℕ) → Cited profile → c < places → Holds profile whole
    → Agree profile (kept_send (kept_of profile whole) c (place_at whole.ends c)) (send whole c (place_at whole.ends c))
unfolding speaks.emit_at
sends_agree profile whole c cited lt holds =
    let count = length-map whole.sent bytes_of in
    elim (found_or (place_at whole.ends c)) [
      | inl none ↦ rw (none, count) (record { same = refl; holds = holds })
      | inr found ↦
          let place = found.0 in
          let client = asking place.client place.recording in
          let there : Place = record place { client = client } in
          let asks : Whole = record whole { ends = with_place whole.ends c there } in
          let asked = holds_asking profile whole c place lt found.1 holds in
          let at : place_at asks.ends c ≡ Some there = set_there whole.ends.clients c None (Some there) holds.facts.clients lt in
          let had = has_client profile asks c there lt at asked in
          rw found.1
          (said_there profile whole c place client _
          (subst (λ (dropped : Option Illegible). SaidSo profile asks c there (speaks.emit_unless client dropped)) (sym had.1.joined.of_client.legible)
          (said_left profile asks c there client.sending.under_way cited lt at refl asked)))
    ]
