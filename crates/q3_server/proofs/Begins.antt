-- What a server begins is a message as a server builds it.
use Rattle.std.proofs.Common.{◌≡◌, ℕ, ◌+◌, ◌^◌, ◌<◌, ◌≤◌, Bool, true, false, [], length, Option, Some, None, refl, sym, ap, subst, inl, inr, arith, is_some}
use Rattle.std.specs.Prelude.{nat_le, nat_lt, if◌then◌else◌, IfSome, ◌-◌}
use Rattle.std.proofs.lemmas.Bool.{cases_Bool, cond_both, leb-false, both_ways}
use Rattle.std.proofs.lemmas.List.{get_or_past}
use Rattle.q3_profile.specs.declared.profile.Profile.{Profile}
use Rattle.q3_player.specs.State.{zero_player}
use Rattle.q3_chan.specs.Datagrams.{sequence_end}
use Rattle.q3_chan.specs.Sending.{UnderWay}
use Rattle.q3_gamestate.specs.Laws.{IsGamestate}
use Rattle.q3_entity_ring.specs.Snapshot.{Snapshot}
use Rattle.q3_frames.specs.Frames.{FramesState, base_of}
use Rattle.q3_map.specs.Map.{MapState}
use Rattle.q3_built.specs.Built.{Built, IsHeld, IsSnapshot, IsNear, IsTelling, IsBuilt, is_unclear, built_bits}
use Rattle.q3_slot.specs.declared.stage.ClientStage.{ClientStage}
use Rattle.q3_slot.specs.declared.stage.ClientStage.TheVariants.{Connected, Primed, Active}
use Rattle.q3_slot.specs.Slot.{SlotState, is_active, plays_under, asked}
use Rattle.q3_slot.specs.Emitting.{SlotEmission, played_snapshot, waiting_snapshot, next_snapshot, next_frames, telling_of, begun_next, next_game, next_game_built, is_overlong, most_placed, emit_built, emit_game, emit_new, emit_slot}
use Rattle.q3_slot.specs.Standing.{IsSlot}
use Rattle.q3_server.specs.Server.{ServerState, slot_at, emit_from, emit_at}
use Rattle.q3_server.specs.Standing.{IsMap, IsJoined, HoldSnapshots, IsServer, BeginsBuilt, Below}
use Rattle.q3_server.proofs.KeepsFrames.{held_is, next_is_snapshot, snapshots_next}
use Rattle.q3_server.proofs.KeepsClients.{zero_held, at_place}

-- a client that plays under no gamestate doesn't play
waits_then : (stage : ClientStage) → plays_under stage ≡ None → is_active stage ≡ false
waits_then Connected under = refl
waits_then (Primed game) under = refl
waits_then (Active game) under = absurd cc

-- ---- the next message

module _ (below : Below) (profile : Profile) (map : MapState) (slot : SlotState) (is_map : IsMap profile map) (zero_is : IsHeld profile zero_player) (is : IsSlot slot)
    (joined : IsJoined profile map.id slot) where
  next_tells : is_unclear profile slot.executed.executed ≡ false → IsTelling profile slot.challenge (slot.sending.number + 1) (telling_of profile slot)
  next_tells clear =
      let first = slot.issued.acknowledged + 1 in
      let numbers : slot.issued.acknowledged + length slot.issued.waiting ≤ 2 ^ 31 - 1 = is.window.numbers in
      let few = is.window.few in
      let waiting = below.commands first slot.issued.waiting (omega (arith, numbers)) is.window.texts in
      record {
        ack = is.executed;
        text = is.last;
        few = omega (arith, few, waiting.1);
        commands = waiting.0;
        key = refl;
        clear = clear;
      }

  next_number : (next_snapshot map slot).head.number ≡ slot.sending.number + 1
  next_number = of_active (is_active slot.stage)
    where
      of_active : (active : Bool) → (if active then played_snapshot map slot else waiting_snapshot map slot).head.number ≡ slot.sending.number + 1
      of_active true = refl
      of_active false = refl

  -- a client that doesn't play gets a snapshot of nothing, against none
  waits_empty : (frames : FramesState) (c : ℕ) → plays_under slot.stage ≡ None → ((next_snapshot map slot).entities ≡ []) × ((begun_next profile map frames c slot).base ≡ None)
  waits_empty frames c under = of_active (is_active slot.stage) refl
    where
      of_active : (active : Bool) → is_active slot.stage ≡ active → ((next_snapshot map slot).entities ≡ []) × ((begun_next profile map frames c slot).base ≡ None)
      of_active false still = (
        ap (λ (a : Bool). (if a then played_snapshot map slot else waiting_snapshot map slot).entities) still,
        ap (λ (a : Bool). base_of (next_frames map frames c slot) c (slot.sending.number + 1) (if a then slot.delta else 0)) still,
      )
      of_active true plays = absurd (both_ways (is_active slot.stage) (waits_then slot.stage under) plays)

  -- a base is near, and a snapshot as it is built
  base_is : (frames : FramesState) (c n delta : ℕ) → HoldSnapshots profile frames → IfSome (base_of frames c n delta) (λ base. IsNear n base × IsSnapshot profile base)
  base_is frames c n delta holds = of_base (base_of frames c n delta) refl
    where
      of_base : (base : Option Snapshot) → base_of frames c n delta ≡ base → IfSome base (λ base. IsNear n base × IsSnapshot profile base)
      of_base None found = tt
      of_base (Some base) found =
          let near = below.near frames c n delta base found in
          let some = near.0 in
          let under = near.1 in
          let within = near.2 in
          let same = near.3 in
          (record { some = omega (arith, some, same); below = omega (arith, under, same); near = omega (arith, within, same) }, held_is profile frames c delta base holds near.4)

  pub next_is_built : (frames : FramesState) (c : ℕ) → HoldSnapshots profile frames → slot.sending.number + 1 < sequence_end → is_unclear profile slot.executed.executed ≡ false
      → IsBuilt profile slot.challenge (slot.sending.number + 1) (begun_next profile map frames c slot)
  next_is_built frames c holds fits clear =
      record {
        telling = telling_of profile slot;
        tells = next_tells clear;
        baselines = is_map.baselines;
        section = inl (record {
          snapshot = next_snapshot map slot;
          is = refl;
          number = next_number;
          are = next_is_snapshot below profile map slot is_map zero_is joined fits;
          waits = waits_empty frames c;
          base_is = base_is (next_frames map frames c slot) c (slot.sending.number + 1) (asked slot) (snapshots_next below profile map slot is_map zero_is joined frames c fits holds);
        });
      }

  pub game_is_built : (c : ℕ) → c < 2 ^ 32 → slot.owed ≡ true → is_unclear profile slot.executed.executed ≡ false
      → IsBuilt profile slot.challenge (slot.sending.number + 1) (next_game_built profile map c slot)
  game_is_built c lt owed clear =
      let numbers : slot.issued.acknowledged + length slot.issued.waiting ≤ 2 ^ 31 - 1 = is.window.numbers in
      let game : IsGamestate profile (next_game map c slot) = record {
        command = omega (arith, numbers);
        slot = lt;
        feed = is_map.feed;
        strings = is_map.strings;
        texts = is_map.texts;
        pending = is_map.pending;
        baselines = is_map.baselines;
        id = ap is_some (is_map.tells (joined.owed owed));
      } in
      record {
        telling = telling_of profile slot;
        tells = next_tells clear;
        baselines = is_map.baselines;
        section = inr (record { game = next_game map c slot; is = refl; last = refl; baselines = refl; are = game });
      }

  -- ---- what is begun, if anything is

  abbrev Begun : SlotEmission → Type 0
  Begun emission = IfSome emission.began (IsBuilt profile slot.challenge (slot.sending.number + 1))

  begun_built : (made : FramesState) (built : Built) → IsBuilt profile slot.challenge (slot.sending.number + 1) built → Begun (emit_built profile slot map made built)
  begun_built made built is_built =
      elim (cases_Bool (is_overlong (built_bits profile built))) [
        | inl long ↦ rw long tt
        | inr short ↦ rw short is_built
      ]

  begun_game : (frames : FramesState) (built : Built) → IsBuilt profile slot.challenge (slot.sending.number + 1) built → Begun (emit_game profile slot map frames built)
  begun_game frames built is_built =
      elim (cases_Bool (is_overlong (built_bits profile built))) [
        | inl long ↦ rw long tt
        | inr short ↦ rw short is_built
      ]

  begun_new : (frames : FramesState) (c : ℕ) → HoldSnapshots profile frames → c < 2 ^ 32 → Begun (emit_new profile map frames c slot)
  begun_new frames c holds lt =
      elim (cases_Bool (nat_le sequence_end (slot.sending.number + 1))) [
        | inl ended ↦ rw ended tt
        | inr goes ↦ elim (cases_Bool (nat_lt most_placed frames.placed)) [
          | inl full ↦ rw (goes, full) tt
          | inr room ↦ elim (cases_Bool (is_unclear profile slot.executed.executed)) [
            | inl hidden ↦ rw (goes, room, hidden) tt
            | inr clear ↦ rw (goes, room, clear) (cond_both slot.owed (emit_game profile slot map frames (next_game_built profile map c slot))
                (emit_built profile slot map (next_frames map frames c slot) (begun_next profile map frames c slot)) Begun
                (λ owed. begun_game frames (next_game_built profile map c slot) (game_is_built c lt owed clear))
                (λ none. begun_built (next_frames map frames c slot) (begun_next profile map frames c slot)
                (next_is_built frames c holds (leb-false sequence_end (slot.sending.number + 1) goes) clear)))
          ]
        ]
      ]

  begun_slot : (frames : FramesState) (c : ℕ) (left : Option UnderWay) → HoldSnapshots profile frames → c < 2 ^ 32 → Begun (emit_slot profile map frames c slot left)
  begun_slot frames c None holds lt = begun_new frames c holds lt
  begun_slot frames c (Some left) holds lt = tt

-- whatever the server keeps
pub begins : Below → (server : ServerState) (c : ℕ) → c < 2 ^ 32 → IfSome (slot_at server c) IsSlot → IsServer server.profile server.map server.slots server.frames → BeginsBuilt server c
unfolding emit_at
begins below server c lt here is = of_slot (slot_at server c) here (at_place server.profile server.map.id server.slots c is.clients)
  where
    of_slot : (found : Option SlotState) → IfSome found IsSlot → IfSome found (IsJoined server.profile server.map.id)
        → IfSome found (λ slot. IfSome (emit_from server c found).began (IsBuilt server.profile slot.challenge (slot.sending.number + 1)))
    of_slot None here joined = tt
    of_slot (Some slot) here joined =
        begun_slot below server.profile server.map slot is.is_map (zero_held below server.profile is.codec) here joined server.frames c slot.sending.under_way is.snapshots lt

-- and where it has no such slot
pub begins_nothing : (server : ServerState) (c : ℕ) → length server.slots ≤ c → BeginsBuilt server c
begins_nothing server c past =
    subst (λ (found : Option SlotState). IfSome found (λ slot. IfSome (emit_at server c).began (IsBuilt server.profile slot.challenge (slot.sending.number + 1))))
    (sym (get_or_past server.slots c None past)) tt
