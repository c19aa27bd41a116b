-- What a call of the server for one client leaves the others.
use Rattle.std.proofs.Common.{Bool, List, None, Option, Some, ap, arith, length, refl, subst, sym, ◌+◌, ◌≡◌, ◌≤◌, ℕ}
use Rattle.std.specs.Prelude.{Err, Ok, Result, if◌then◌else◌, nat_le, nat_lt, position, ◌≢◌, ◌||◌}
use Rattle.std.proofs.lemmas.Bool.{cond_both}
use Rattle.std.proofs.lemmas.List.{get_or-set_other, length-take}
use Rattle.q3_io.specs.declared.address.Address.{Address}
use Rattle.q3_chan.specs.declared.qport.NoQport.{NoQport}
use Rattle.q3_chan.specs.declared.qport.NoQport.TheVariants as no
use Rattle.q3_chan.specs.Checks.{is_checked}
use Rattle.q3_chan.specs.Senders.{qport_of}
use Rattle.q3_bits.specs.Bits.{message_length}
use Rattle.q3_chan.specs.Datagrams.{sequence_end}
use Rattle.q3_chan.specs.Sending.{UnderWay}
use Rattle.q3_profile.specs.declared.profile.Profile.{Profile}
use Rattle.q3_entity.specs.Entities.{most_entities}
use Rattle.q3_entity_ring.specs.Snapshot.{Snapshot}
use Rattle.q3_frames.specs.Frames.{FramesState, build_at}
use Rattle.q3_frames.specs.Laws.{BuildLeavesOthers}
use Rattle.q3_map.specs.Map.{MapState, begins_game}
use Rattle.q3_built.specs.Built.{Built, built_bits, is_unclear, number_of}
use Rattle.q3_slot.specs.Slot.{SlotState, is_active, is_of, new_slot, primed, with_area, with_delayed, with_player}
use Rattle.q3_slot.specs.declared.answer.Emitted.TheVariants as emitted
use Rattle.q3_slot.specs.Emitting.{SlotEmission, begun_next, emit_bits, emit_built, emit_game, emit_game_bits, emit_new, emit_next, emit_slot, is_overlong, most_placed, next_frames, next_game_built, next_snapshot, played_snapshot, waiting_snapshot}
use Rattle.q3_slot.specs.Emitting as emits
use Rattle.q3_server.specs.declared.server.SlotError.{SlotError}
use Rattle.q3_server.specs.declared.server.SlotError.TheVariants.{Range}
use Rattle.q3_server.specs.Server.{Handed, ServerState, add_apart, add_client_at, add_to, emit_at, emit_from, give, remove_entity_at, say_to, set_baseline_at, set_entity_at, set_time_at, slot_at, with_slot}
use Rattle.q3_server.specs.Taking as hears
use Rattle.q3_server.specs.Apart.{LosesByRing, SlotStays, SlotStaysBeside, SlotsApart, found_by, taker_of}

-- where frames are as they were
nothing_lost : (d : ℕ) (frames : FramesState) → LosesByRing d frames frames
nothing_lost d frames = record { ring = refl; grows = omega arith; few = omega arith; held = λ number. refl }

-- nothing of the server's slots and frames changes
stays : (d : ℕ) (server new : ServerState) → slot_at new d ≡ slot_at server d → new.frames ≡ server.frames → SlotStays d server new
stays d server new slot frames = record { slot = slot; frames = frames }

other_slot : (server : ServerState) (c d : ℕ) (slot : SlotState) → d ≢ c → SlotStays d server (with_slot server c slot)
other_slot server c d slot ne = stays d server (with_slot server c slot) (get_or-set_other server.slots c d (Some slot) None ne) refl

apart_joins : (server : ServerState) (c d : ℕ) (slot : SlotState) (twin : Option ℕ) → d ≢ c → SlotStays d server (add_apart server c slot twin).server
apart_joins server c d slot None ne = other_slot server c d slot ne
apart_joins server c d slot (Some twin) ne = stays d server server refl refl

place_joins : (server : ServerState) (c d : ℕ) (slot : SlotState) (old : Option SlotState) → d ≢ c → SlotStays d server (add_to server c slot old).server
place_joins server c d slot None ne = apart_joins server c d slot (position (is_of slot.address.host slot.qport) server.slots) ne
place_joins server c d slot (Some old) ne = stays d server server refl refl

server_joins : (server : ServerState) (c challenge qport d : ℕ) (address : Address) → d ≢ c → SlotStays d server (add_client_at server c challenge qport address).server
server_joins server c challenge qport d address ne =
    let slot = new_slot server.profile.protocol challenge qport address in
    cond_both (nat_le (length server.slots) c) (record { server = server; answer = Err Range }) (add_to server c slot (slot_at server c))
    (λ (handed : Handed SlotError). SlotStays d server handed.server) (λ e. stays d server server refl refl) (λ e. place_joins server c d slot (slot_at server c) ne)

gives : (server : ServerState) (c d : ℕ) (change : SlotState → SlotState) (found : Option SlotState) → d ≢ c → SlotStays d server (give server c change found).server
gives server c d change None ne = stays d server server refl refl
gives server c d change (Some slot) ne = other_slot server c d (change slot) ne

says : (server : ServerState) (c d : ℕ) (text : List ℕ) (found : Option SlotState) → d ≢ c → SlotStays d server (say_to server c text found).server
says server c d text None ne = stays d server server refl refl
says server c d text (Some slot) ne = stays d server (say_to server c text (Some slot)).server (get_or-set_other server.slots c d _ None ne) refl

-- the frames after an emission: a frame is built for its slot alone
builds : BuildLeavesOthers → (frames : FramesState) (c d : ℕ) (snapshot : Snapshot) → length snapshot.entities ≤ most_entities → d ≢ c
    → LosesByRing d frames (build_at frames c snapshot)
builds leaves frames c d snapshot few ne = record {
  ring = refl;
  grows = omega arith;
  few = omega (arith, few);
  held = λ number. leaves frames c d number snapshot (λ same. absurd (ne same));
}

next_few : (map : MapState) (slot : SlotState) → length (next_snapshot map slot).entities ≤ most_entities
next_few map slot =
    cond_both (is_active slot.stage) (played_snapshot map slot) (waiting_snapshot map slot) (λ (s : Snapshot). length s.entities ≤ most_entities)
    (λ e. omega (arith, length-take most_entities map.entities)) (λ e. omega arith)

game_frames : (slot : SlotState) (map : MapState) (frames : FramesState) (built : Built) (bits : List Bool) → (emit_game_bits slot map frames built bits).frames ≡ frames
game_frames slot map frames built bits =
    cond_both (is_overlong bits) (emits.nothing slot map frames emitted.Overlong)
    (emits.begin (primed slot (slot.sending.number + 1)) (begins_game map) frames (emitted.Game (slot.sending.number + 1) (message_length (length bits))) built bits)
    (λ (e : SlotEmission). e.frames ≡ frames) (λ e. refl) (λ e. refl)

bits_frames : (slot : SlotState) (map : MapState) (frames : FramesState) (built : Built) (bits : List Bool) → (emit_bits slot map frames built bits).frames ≡ frames
bits_frames slot map frames built bits =
    cond_both (is_overlong bits) (emits.nothing slot map frames emitted.Overlong)
    (emits.begin slot map frames (emitted.Snapshot (slot.sending.number + 1) (number_of built.base) (message_length (length bits))) built bits)
    (λ (e : SlotEmission). e.frames ≡ frames) (λ e. refl) (λ e. refl)

next_keeps : BuildLeavesOthers → (profile : Profile) (map : MapState) (frames : FramesState) (c d : ℕ) (slot : SlotState) → d ≢ c → LosesByRing d frames (emit_next profile map frames c slot).frames
next_keeps leaves profile map frames c d slot ne =
    let game = next_game_built profile map c slot in
    let after = next_frames map frames c slot in
    let built = begun_next profile map frames c slot in
    cond_both slot.owed (emit_game profile slot map frames game) (emit_built profile slot map after built)
    (λ (e : SlotEmission). LosesByRing d frames e.frames)
    (λ e. subst (LosesByRing d frames) (sym (game_frames slot map frames game (built_bits profile game))) (nothing_lost d frames))
    (λ e. subst (LosesByRing d frames) (sym (bits_frames slot map after built (built_bits profile built))) (builds leaves frames c d (next_snapshot map slot) (next_few map slot) ne))

new_keeps : BuildLeavesOthers → (profile : Profile) (map : MapState) (frames : FramesState) (c d : ℕ) (slot : SlotState) → d ≢ c → LosesByRing d frames (emit_new profile map frames c slot).frames
new_keeps leaves profile map frames c d slot ne =
    let left : SlotEmission = if is_unclear profile slot.executed.executed then emits.nothing slot map frames emitted.Unclear else emit_next profile map frames c slot in
    cond_both (nat_le sequence_end (slot.sending.number + 1) || nat_lt most_placed frames.placed) (emits.nothing slot map frames emitted.SequenceEnd) left
    (λ (e : SlotEmission). LosesByRing d frames e.frames) (λ e. nothing_lost d frames)
    (λ e. cond_both (is_unclear profile slot.executed.executed) (emits.nothing slot map frames emitted.Unclear) (emit_next profile map frames c slot)
    (λ (e : SlotEmission). LosesByRing d frames e.frames) (λ e. nothing_lost d frames) (λ e. next_keeps leaves profile map frames c d slot ne))

slot_keeps : BuildLeavesOthers → (profile : Profile) (map : MapState) (frames : FramesState) (c d : ℕ) (slot : SlotState) (left : Option UnderWay) → d ≢ c
    → LosesByRing d frames (emit_slot profile map frames c slot left).frames
slot_keeps leaves profile map frames c d slot None ne = new_keeps leaves profile map frames c d slot ne
slot_keeps leaves profile map frames c d slot (Some left) ne = nothing_lost d frames

emits_to : BuildLeavesOthers → (server : ServerState) (c d : ℕ) (found : Option SlotState) → d ≢ c → SlotStaysBeside d server (emit_from server c found).server
emits_to leaves server c d None ne = record { slot = refl; frames = nothing_lost d server.frames }
emits_to leaves server c d (Some slot) ne = record {
  slot = get_or-set_other server.slots c d _ None ne;
  frames = slot_keeps leaves server.profile server.map server.frames c d slot slot.sending.under_way ne;
}

takes_by : (server : ServerState) (c d : ℕ) (from : Address) (bytes : List ℕ) (found : Option SlotState) → d ≢ c → SlotStays d server (hears.take_by server c from bytes found).server
takes_by server c d from bytes None ne = stays d server server refl refl
takes_by server c d from bytes (Some slot) ne = stays d server (hears.take_by server c from bytes (Some slot)).server (get_or-set_other server.slots c d _ None ne) refl

takes_from : (server : ServerState) (d : ℕ) (from : Address) (bytes : List ℕ) (found : Option ℕ) → found ≢ Some d → SlotStays d server (hears.take_from server from bytes found).server
takes_from server d from bytes None ne = stays d server server refl refl
takes_from server d from bytes (Some c) ne = takes_by server c d from bytes (slot_at server c) (λ same. ne (ap Some (sym same)))

takes_headed : (server : ServerState) (d : ℕ) (from : Address) (bytes : List ℕ) (qport : Result ℕ NoQport) → found_by server from qport ≢ Some d
    → SlotStays d server (hears.take_headed server from bytes qport).server
takes_headed server d from bytes (Ok qport) ne = takes_from server d from bytes (hears.sender_of server from.host qport) ne
takes_headed server d from bytes (Err no.Runt) ne = stays d server server refl refl
takes_headed server d from bytes (Err no.Connectionless) ne = stays d server server refl refl

takes : (server : ServerState) (d : ℕ) (from : Address) (bytes : List ℕ) → taker_of server from bytes ≢ Some d → SlotStays d server (hears.take_at server from bytes).server
unfolding hears.take_at
takes server d from bytes ne = takes_headed server d from bytes (qport_of (is_checked server.profile.protocol) bytes) ne

-- ---- every call

pub slots_apart : BuildLeavesOthers → SlotsApart
unfolding emit_at
slots_apart leaves = record {
  joins = λ server c challenge qport d address ne. server_joins server c challenge qport d address ne;
  baseline = λ server state d. stays d server (set_baseline_at server state).server refl refl;
  entity = λ server state d. stays d server (set_entity_at server state) refl refl;
  remove = λ server number d. stays d server (remove_entity_at server number) refl refl;
  time = λ server time d. stays d server (set_time_at server time) refl refl;
  player = λ server c d player ne. gives server c d (λ slot. with_player server.profile slot player) (slot_at server c) ne;
  area = λ server c d area ne. gives server c d (λ slot. with_area slot area) (slot_at server c) ne;
  delays = λ server c d on ne. gives server c d (λ slot. with_delayed slot on) (slot_at server c) ne;
  says = λ server c d text ne. says server c d text (slot_at server c) ne;
  emits = λ server c d ne. emits_to leaves server c d (slot_at server c) ne;
  takes = takes;
}
