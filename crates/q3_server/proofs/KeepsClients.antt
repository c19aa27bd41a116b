-- What a server keeps of each client stays so.
use Rattle.std.proofs.Common.{◌≡◌, ℕ, zero, suc, ◌+◌, ◌<◌, Bool, true, false, List, [], ◌∷◌, length, get_or, set, take, drop, ◌++◌, Option, Some, None, Result, Ok, Err, refl, sym, ap, subst, ◌∙◌, inl, inr, arith, option_map}
use Rattle.std.specs.Prelude.{◌==◌, ◌&&◌, ◌||◌, not, nat_le, nat_lt, map as map_list, replicate, All, IfSome}
use Rattle.std.proofs.lemmas.Bool.{cases_Bool, cases_lt, cond_both, and_parts, or_parts, eqb-false, leb-false, not-true}
use Rattle.std.proofs.lemmas.List.{get_or_past, take_all, drop_all, append-nil, length-map}
use Rattle.std.proofs.lemmas.List.Elements.{All-nil, All-cons, All-head, All-tail, All-get_or, All-set}
use Rattle.q3_io.specs.declared.address.Address.{Address}
use Rattle.q3_profile.specs.declared.profile.Profile.{Profile}
use Rattle.q3_profile.specs.Profile.{IsCodec}
use Rattle.q3_player.specs.State.{zero_player, IsState}
use Rattle.q3_player.specs.declared.state.PlayerState.{PlayerState}
use Rattle.q3_chan.specs.declared.gatherer.Gathered.{Gathered}
use Rattle.q3_chan.specs.declared.gatherer.Gathered.TheVariants as gathered
use Rattle.q3_chan.specs.Gathering.{gathered as gathered_of}
use Rattle.q3_chan.specs.Checks.{check_for}
use Rattle.q3_chan.specs.Sending.{UnderWay, started, next_of}
use Rattle.q3_clmsg.specs.declared.error.ClientIllegible.{ClientIllegible}
use Rattle.q3_clmsg.specs.Values.{Message}
use Rattle.q3_window.specs.Incoming.{gap_in}
use Rattle.q3_window.specs.Outgoing.{with_texts}
use Rattle.q3_frames.specs.Frames.{FramesState}
use Rattle.q3_map.specs.Map.{MapState}
use Rattle.q3_built.specs.Built.{Built, IsHeld, IsArea, is_unclear, built_bits, built_bytes}
use Rattle.q3_slot.specs.Slot.{SlotState, new_slot, game_of, is_active, is_connected, on_new_map, with_player, with_area, with_delayed}
use Rattle.q3_slot.specs.Slots.{changes_own, say_slot, slot_saying, tells, slot_after_datagram, slot_after, map_after, frames_after, emission_of}
use Rattle.q3_slot.specs.Taking as took
use Rattle.q3_slot.specs.Taking.{Came, OfMap, OfOther, Leading, asks_game, is_after_game, run_unless, run_read, said_by, take_slot}
use Rattle.q3_slot.specs.Emitting.{SlotEmission, is_overlong, most_placed, next_frames, begun_next, next_game_built, emit_built, emit_game, emit_new, emit_slot}
use Rattle.q3_chan.specs.Datagrams.{server_header, sequence_end}
use Rattle.q3_server.specs.Standing.{IsMap, IsJoined, AreJoined, HoldSnapshots, IsServer, Below}
use Rattle.q3_server.proofs.KeepsMap.{map_begun}
use Rattle.q3_server.proofs.KeepsFrames.{no_area, snapshots_next}

-- the player with nothing in it
pub zero_held : Below → (profile : Profile) → IsCodec profile → IsHeld profile zero_player
zero_held below profile codec = let first = below.zero profile.player.kinds codec.player.kinds in record { state = first.0; normal = first.1 }

-- ---- one client

-- that just joined
pub joined_new : Below → (profile : Profile) (id challenge qport : ℕ) (address : Address) → IsCodec profile → IsJoined profile id (new_slot profile.protocol challenge qport address)
joined_new below profile id challenge qport address codec =
    record { player = zero_held below profile codec; area = no_area; owed = λ owes. absurd cc; sends = refl; hears = refl }

-- on a new map
joined_on_map : Below → (profile : Profile) (id next : ℕ) (slot : SlotState) → IsCodec profile → IsJoined profile id slot → IsJoined profile next (on_new_map slot)
joined_on_map below profile id next slot codec is =
    record { player = zero_held below profile codec; area = no_area; owed = λ owes. absurd cc; sends = is.sends; hears = is.hears }

pub joined_player : Below → (profile : Profile) (id : ℕ) (player : PlayerState) (slot : SlotState) → IsCodec profile → IsState player → IsJoined profile id slot
    → IsJoined profile id (with_player profile slot player)
joined_player below profile id player slot codec state is =
    let made = below.player profile.player.kinds player codec.player.kinds state in
    record { player = record { state = made.0; normal = made.1 }; area = is.area; owed = is.owed; sends = is.sends; hears = is.hears }

pub joined_area : (profile : Profile) (id : ℕ) (area : List ℕ) (slot : SlotState) → IsArea area → IsJoined profile id slot → IsJoined profile id (with_area slot area)
joined_area profile id area slot few is = record { player = is.player; area = few; owed = is.owed; sends = is.sends; hears = is.hears }

-- which is delayed, or isn't
pub joined_delayed : (profile : Profile) (id : ℕ) (on : Bool) (slot : SlotState) → IsJoined profile id slot → IsJoined profile id (with_delayed slot on)
joined_delayed profile id on slot is = record { player = is.player; area = is.area; owed = is.owed; sends = is.sends; hears = is.hears }

-- to which a command is issued
pub joined_issued : (profile : Profile) (id : ℕ) (text : List ℕ) (slot : SlotState) → IsJoined profile id slot → IsJoined profile id (say_slot slot text).slot
joined_issued profile id text slot is =
    elim (cases_Bool (changes_own text)) [
      | inl own ↦ rw own is
      | inr other ↦ elim (cases_Bool (is_connected slot.stage)) [
        | inl waits ↦ rw (other, waits) is
        | inr begun ↦ rw (other, begun) (record { player = is.player; area = is.area; owed = is.owed; sends = is.sends; hears = is.hears })
      ]
    ]

joined_told : (profile : Profile) (id : ℕ) (texts : List (List ℕ)) (slot : SlotState) → IsJoined profile id slot → IsJoined profile id (tells texts slot)
joined_told profile id texts slot is =
    cond_both (is_connected slot.stage) slot (record slot { issued = with_texts slot.issued texts }) (IsJoined profile id)
    (λ waits. is) (λ begun. record { player = is.player; area = is.area; owed = is.owed; sends = is.sends; hears = is.hears })

-- ---- a datagram

module _ (below : Below) (profile : Profile) (map : MapState) (c : ℕ) where
  joined_ran : (slot : SlotState) (number : ℕ) (message : Message) (gap : Option ℕ) → IsJoined profile map.id slot → IsJoined profile map.id (run_unless slot c number message gap).slot
  joined_ran slot number message (Some gap) is = is
  joined_ran slot number message None is =
      record { player = is.player; area = is.area; owed = is.owed; sends = is.sends; hears = is.hears }

  -- a gamestate is owed on a map alone
  asks_on_map : (slot : SlotState) (heads : Leading) → asks_game map slot heads ≡ true → map.id ≡ 0 → ⊥
  asks_on_map slot heads asks =
      let two = and_parts (not (map.id == 0) && not (is_active slot.stage)) (is_after_game heads.acknowledged (game_of slot.stage)) asks in
      eqb-false map.id 0 (not-true (map.id == 0) (and_parts (not (map.id == 0)) (not (is_active slot.stage)) two.0).0)

  owes_on_map : (slot : SlotState) (heads : Leading) (owed : Bool) → (owed ≡ true → map.id ≡ 0 → ⊥) → (owed || asks_game map slot heads) ≡ true → map.id ≡ 0 → ⊥
  owes_on_map slot heads true before so = before refl
  owes_on_map slot heads false before so = asks_on_map slot heads so

  joined_read : (slot : SlotState) (number : ℕ) (read : Result Came ClientIllegible) → IsJoined profile map.id slot → IsJoined profile map.id (run_read map slot c number read).slot
  joined_read slot number (Ok (OfMap message)) is = joined_ran slot number message (gap_in slot.executed.executed message.commands) is
  joined_read slot number (Ok (OfOther heads)) is =
      record { player = is.player; area = is.area; owed = owes_on_map slot heads slot.owed is.owed; sends = is.sends; hears = is.hears }
  joined_read slot number (Err cause) is = is

  joined_answered : (slot : SlotState) (answer : Gathered) (read : ℕ → Result Came ClientIllegible) → IsJoined profile map.id slot → IsJoined profile map.id (took.take_answer map slot c answer read).slot
  joined_answered slot (gathered.Whole number count) read is = joined_read slot number (read number) is
  joined_answered slot gathered.Partial read is = is
  joined_answered slot gathered.Old read is = is
  joined_answered slot gathered.OutOfOrder read is = is
  joined_answered slot gathered.BadFragment read is = is
  joined_answered slot gathered.BadCheck read is = is
  joined_answered slot gathered.Runt read is = is
  joined_answered slot gathered.Connectionless read is = is

  pub joined_took : (from : Address) (datagram : List ℕ) (slot : SlotState) → IsJoined profile map.id slot → IsJoined profile map.id (take_slot profile map c from datagram slot).slot
  joined_took from datagram slot is =
      let gathering = gathered_of slot.gathering datagram in
      joined_answered (record slot { address = from; gathering = gathering.gathering }) gathering.answer (λ number. said_by profile map slot gathering.message)
      (record { player = is.player; area = is.area; owed = is.owed; sends = is.sends; hears = below.gathers.stays slot.gathering datagram ∙ is.hears })

-- ---- an emission

-- what stays so
record Emits (profile : Profile) (map : MapState) (emission : SlotEmission) : Type 0 where
  client : IsJoined profile map.id emission.slot
  is_map : IsMap profile emission.map
  id : emission.map.id ≡ map.id
  snapshots : HoldSnapshots profile emission.frames

module _ (below : Below) (profile : Profile) (map : MapState) (frames : FramesState) (c : ℕ) (slot : SlotState) (codec : IsCodec profile) (is_map : IsMap profile map) (holds : HoldSnapshots profile frames)
    (is : IsJoined profile map.id slot) where
  -- a message is begun, and a piece handed out
  begun_header : (message : List ℕ) → (next_of (started slot.sending message)).sending.header ≡ server_header (check_for profile.protocol slot.challenge)
  begun_header message = (below.sends.stays (started slot.sending message)).0 ∙ is.sends

  emits_built : (made : FramesState) (built : Built) → HoldSnapshots profile made → Emits profile map (emit_built profile slot map made built)
  emits_built made built made_is =
      elim (cases_Bool (is_overlong (built_bits profile built))) [
        | inl long ↦ rw long (record { client = is; is_map = is_map; id = refl; snapshots = made_is })
        | inr short ↦ rw short (record {
          client = record { player = is.player; area = is.area; owed = is.owed; sends = begun_header (built_bytes profile built); hears = is.hears };
          is_map = is_map;
          id = refl;
          snapshots = made_is;
        })
      ]

  emits_game : (built : Built) → Emits profile map (emit_game profile slot map frames built)
  emits_game built =
      elim (cases_Bool (is_overlong (built_bits profile built))) [
        | inl long ↦ rw long (record { client = is; is_map = is_map; id = refl; snapshots = holds })
        | inr short ↦ rw short (record {
          client = record { player = is.player; area = is.area; owed = λ owes. absurd cc; sends = begun_header (built_bytes profile built); hears = is.hears };
          is_map = map_begun profile map is_map;
          id = refl;
          snapshots = holds;
        })
      ]

  emits_new : Emits profile map (emit_new profile map frames c slot)
  emits_new =
      elim (cases_Bool (nat_le sequence_end (slot.sending.number + 1) || nat_lt most_placed frames.placed)) [
        | inl ended ↦ rw ended (record { client = is; is_map = is_map; id = refl; snapshots = holds })
        | inr goes ↦
            let fits = leb-false sequence_end (slot.sending.number + 1) (or_parts (nat_le sequence_end (slot.sending.number + 1)) (nat_lt most_placed frames.placed) goes).0 in
            let made = snapshots_next below profile map slot is_map (zero_held below profile codec) is frames c fits holds in
            elim (cases_Bool (is_unclear profile slot.executed.executed)) [
              | inl hidden ↦ rw (goes, hidden) (record { client = is; is_map = is_map; id = refl; snapshots = holds })
              | inr clear ↦ rw (goes, clear) (cond_both slot.owed (emit_game profile slot map frames (next_game_built profile map c slot))
                  (emit_built profile slot map (next_frames map frames c slot) (begun_next profile map frames c slot)) (Emits profile map)
                  (λ owed. emits_game (next_game_built profile map c slot)) (λ none. emits_built (next_frames map frames c slot) (begun_next profile map frames c slot) made))
            ]
      ]

  emits_slot : (left : Option UnderWay) → Emits profile map (emit_slot profile map frames c slot left)
  emits_slot None = emits_new
  emits_slot (Some left) = record {
    client = record { player = is.player; area = is.area; owed = is.owed; sends = (below.sends.stays slot.sending).0 ∙ is.sends; hears = is.hears };
    is_map = is_map;
    id = refl;
    snapshots = holds;
  }

-- ---- all clients

abbrev IsPlace : Profile → ℕ → Option SlotState → Type 0
IsPlace profile id found = IfSome found (IsJoined profile id)

-- the client at a place
pub at_place : (profile : Profile) (id : ℕ) (slots : List (Option SlotState)) (c : ℕ) → AreJoined profile id slots → IfSome (get_or slots c None) (IsJoined profile id)
at_place profile id slots c are =
    elim (cases_lt c (length slots)) [
      | inl within ↦ All-get_or (IsPlace profile id) slots c None within are.each
      | inr past ↦ subst (IsPlace profile id) (sym (get_or_past slots c None past)) tt
    ]

-- where a client was found
found_place : (profile : Profile) (id : ℕ) (slots : List (Option SlotState)) (c : ℕ) (found : Option SlotState) → c < length slots → found ≡ get_or slots c found → AreJoined profile id slots
    → IfSome found (IsJoined profile id)
found_place profile id slots c found within at are = subst (IsPlace profile id) (sym at) (All-get_or (IsPlace profile id) slots c found within are.each)

-- one is put there
pub place_set : (profile : Profile) (id : ℕ) (slots : List (Option SlotState)) (c : ℕ) (now : Option SlotState) → IfSome now (IsJoined profile id) → AreJoined profile id slots
    → AreJoined profile id (set slots c now)
place_set profile id slots c now is are = record { each = All-set (IsPlace profile id) slots c now is are.each }

-- what is found is changed
option_changed : (profile : Profile) (id next : ℕ) (change : SlotState → SlotState) (found : Option SlotState) → ((slot : SlotState) → IsJoined profile id slot → IsJoined profile next (change slot))
    → IfSome found (IsJoined profile id) → IfSome (option_map change found) (IsJoined profile next)
option_changed profile id next change None keeps is = tt
option_changed profile id next change (Some slot) keeps is = keeps slot is

-- every client is changed
all_changed : (profile : Profile) (id next : ℕ) (change : SlotState → SlotState) (slots : List (Option SlotState)) → ((slot : SlotState) → IsJoined profile id slot → IsJoined profile next (change slot))
    → All (IsPlace profile id) slots → All (IsPlace profile next) (map_list (option_map change) slots)
all_changed profile id next change [] keeps are = All-nil (IsPlace profile next)
all_changed profile id next change (found ∷ slots) keeps are =
    All-cons (IsPlace profile next) (option_map change found) (map_list (option_map change) slots)
    (option_changed profile id next change found keeps (All-head (IsPlace profile id) found slots are))
    (all_changed profile id next change slots keeps (All-tail (IsPlace profile id) found slots are))

pub nobody : (profile : Profile) (id count : ℕ) → AreJoined profile id (replicate count None)
nobody profile id count = record { each = none count }
  where
    none : (count : ℕ) → All (IsPlace profile id) (replicate count None)
    none zero = All-nil (IsPlace profile id)
    none (suc count) = All-cons (IsPlace profile id) None (replicate count None) tt (none count)

-- ---- the same of each call

-- a slot emits
pub server_goes_on : Below → (profile : Profile) (map : MapState) (slots : List (Option SlotState)) (frames : FramesState) (c : ℕ) (slot : SlotState) → IsJoined profile map.id slot
    → IsServer profile map slots frames
    → IsServer profile (emission_of profile map frames c slot).map (set slots c (Some (emission_of profile map frames c slot).slot)) (emission_of profile map frames c slot).frames
server_goes_on below profile map slots frames c slot here is =
    let emits = emits_slot below profile map frames c slot is.codec is.is_map is.snapshots here slot.sending.under_way in
    let now : Option SlotState = Some (emission_of profile map frames c slot).slot in
    record {
      codec = is.codec;
      is_map = emits.is_map;
      clients = subst (λ (id : ℕ). AreJoined profile id (set slots c now)) (sym emits.id) (place_set profile map.id slots c now emits.client is.clients);
      snapshots = emits.snapshots;
    }

module _ (profile : Profile) (map : MapState) (slots : List (Option SlotState)) (frames : FramesState) (c : ℕ) (found now : Option SlotState) (within : c < length slots)
    (at : found ≡ get_or slots c found) (is : IsServer profile map slots frames) where
  placed_after : (change : SlotState → SlotState) → ((slot : SlotState) → IsJoined profile map.id slot → IsJoined profile map.id (change slot)) → now ≡ option_map change found
      → AreJoined profile map.id (set slots c now)
  placed_after change keeps after =
      place_set profile map.id slots c now
      (subst (IsPlace profile map.id) (sym after) (option_changed profile map.id map.id change found keeps (found_place profile map.id slots c found within at is.clients))) is.clients

  pub server_player : Below → (player : PlayerState) → IsState player → now ≡ option_map (λ slot. with_player profile slot player) found → IsServer profile map (set slots c now) frames
  server_player below player state after =
      record { codec = is.codec; is_map = is.is_map; clients = placed_after (λ slot. with_player profile slot player) (λ slot. joined_player below profile map.id player slot is.codec state) after; snapshots = is.snapshots }

  pub server_area : (area : List ℕ) → IsArea area → now ≡ option_map (λ slot. with_area slot area) found → IsServer profile map (set slots c now) frames
  server_area area few after =
      record { codec = is.codec; is_map = is.is_map; clients = placed_after (λ slot. with_area slot area) (λ slot. joined_area profile map.id area slot few) after; snapshots = is.snapshots }

  pub server_delayed : (on : Bool) → now ≡ option_map (λ slot. with_delayed slot on) found → IsServer profile map (set slots c now) frames
  server_delayed on after =
      record { codec = is.codec; is_map = is.is_map; clients = placed_after (λ slot. with_delayed slot on) (joined_delayed profile map.id on) after; snapshots = is.snapshots }

  pub server_said : (text : List ℕ) → now ≡ slot_saying text found → IsServer profile map (set slots c now) frames
  server_said text after =
      record { codec = is.codec; is_map = is.is_map; clients = placed_after (λ slot. (say_slot slot text).slot) (joined_issued profile map.id text) after; snapshots = is.snapshots }

  pub server_took : Below → (from : Address) (datagram : List ℕ) → now ≡ slot_after_datagram profile map c from datagram found → IsServer profile map (set slots c now) frames
  server_took below from datagram after =
      record { codec = is.codec; is_map = is.is_map; clients = placed_after (λ slot. (take_slot profile map c from datagram slot).slot) (joined_took below profile map c from datagram) after; snapshots = is.snapshots }

  pub server_emitted : Below → (next : MapState) (made : FramesState) → now ≡ slot_after profile map frames c found → next ≡ map_after profile map frames c found
      → made ≡ frames_after profile map frames c found → IsServer profile next (set slots c now) made
  server_emitted below next made after map_is frames_are =
      subst (λ (m : MapState). IsServer profile m (set slots c now) made) (sym map_is)
      (subst (IsServer profile (map_after profile map frames c found) (set slots c now)) (sym frames_are)
      (of_found found now after (found_place profile map.id slots c found within at is.clients)))
    where
      of_found : (found now : Option SlotState) → now ≡ slot_after profile map frames c found → IfSome found (IsJoined profile map.id)
          → IsServer profile (map_after profile map frames c found) (set slots c now) (frames_after profile map frames c found)
      of_found None now after here =
          record { codec = is.codec; is_map = is.is_map; clients = place_set profile map.id slots c now (subst (IsPlace profile map.id) (sym after) tt) is.clients; snapshots = is.snapshots }
      of_found (Some slot) now after here =
          subst (λ (n : Option SlotState). IsServer profile (map_after profile map frames c (Some slot)) (set slots c n) (frames_after profile map frames c (Some slot))) (sym after) (server_goes_on below profile map slots frames c slot here is)

-- a client joins
pub server_joined : Below → (profile : Profile) (map : MapState) (slots : List (Option SlotState)) (frames : FramesState) (c challenge qport : ℕ) (address : Address) (now : Option SlotState)
    → now ≡ Some (new_slot profile.protocol challenge qport address) → IsServer profile map slots frames → IsServer profile map (set slots c now) frames
server_joined below profile map slots frames c challenge qport address now after is =
    record {
      codec = is.codec;
      is_map = is.is_map;
      clients = place_set profile map.id slots c now (subst (IsPlace profile map.id) (sym after) (joined_new below profile map.id challenge qport address is.codec)) is.clients;
      snapshots = is.snapshots;
    }

-- another state of the map
pub server_mapped : (profile : Profile) (map next : MapState) (slots : List (Option SlotState)) (frames : FramesState) → next.id ≡ map.id → IsMap profile next → IsServer profile map slots frames
    → IsServer profile next slots frames
server_mapped profile map next slots frames same is_map is =
    record { codec = is.codec; is_map = is_map; clients = subst (λ (id : ℕ). AreJoined profile id slots) (sym same) is.clients; snapshots = is.snapshots }

-- a new map
pub server_on_map : Below → (profile : Profile) (map next : MapState) (slots now : List (Option SlotState)) (frames : FramesState) → IsMap profile next → now ≡ map_list (option_map on_new_map) slots
    → IsServer profile map slots frames → IsServer profile next now frames
server_on_map below profile map next slots now frames is_map after is =
    record {
      codec = is.codec;
      is_map = is_map;
      clients = subst (AreJoined profile next.id) (sym after)
          (record { each = all_changed profile map.id next.id on_new_map slots (λ slot. joined_on_map below profile map.id next.id slot is.codec) is.clients.each });
      snapshots = is.snapshots;
    }

-- each client is told of a change
pub server_told : (profile : Profile) (map next : MapState) (slots now : List (Option SlotState)) (frames : FramesState) (texts : List (List ℕ)) → next.id ≡ map.id → IsMap profile next
    → now ≡ map_list (option_map (tells texts)) slots → IsServer profile map slots frames → IsServer profile next now frames
server_told profile map next slots now frames texts same is_map after is =
    record {
      codec = is.codec;
      is_map = is_map;
      clients = subst (AreJoined profile next.id) (sym after)
          (subst (λ (id : ℕ). AreJoined profile id (map_list (option_map (tells texts)) slots)) (sym same)
          (record { each = all_changed profile map.id map.id (tells texts) slots (joined_told profile map.id texts) is.clients.each }));
      snapshots = is.snapshots;
    }

-- where all slots were changed in place
pub all_written : (len : ℕ) (now old slots : List (Option SlotState)) (change : Option SlotState → Option SlotState) → now ≡ map_list change old → old ≡ slots → length old ≡ len
    → take len (now ++ drop (length now) slots) ≡ map_list change slots
all_written len now old slots change after same count =
    let many : length now ≡ length old = ap (λ (l : List (Option SlotState)). length l) after ∙ length-map old change in
    let as_many : length old ≡ length slots = ap (λ (l : List (Option SlotState)). length l) same in
    ap (λ (l : List (Option SlotState)). take len (now ++ l)) (drop_all (length now) slots (omega (arith, many, as_many)))
    ∙ ap (take len) (append-nil now)
    ∙ take_all len now (omega (arith, many, count))
    ∙ after
    ∙ ap (map_list change) same
