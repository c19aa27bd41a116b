-- What a slot emits where nothing is left to be handed out.
use Rattle.std.proofs.Common.{◌≡◌, ◌∙◌, ℕ, ◌+◌, true, false, None, refl, ap}
use Rattle.std.specs.Prelude.{◌||◌, nat_le, nat_lt}
use Rattle.std.proofs.lemmas.Bool.{cond-true, cond-false}
use Rattle.q3_chan.specs.Datagrams.{sequence_end}
use Rattle.q3_chan.specs.Gathering.{Gathering}
use Rattle.q3_chan.specs.Sending.{Sending}
use Rattle.q3_window.specs.Outgoing.{OutgoingState}
use Rattle.q3_entity.specs.Baselines.{Baselines}
use Rattle.q3_entity_ring.specs.Snapshot.{Snapshot}
use Rattle.q3_slot.specs.declared.joined.Joined.{Joined}
use Rattle.q3_profile.specs.declared.profile.Profile.{Profile}
use Rattle.q3_frames.specs.Frames.{FramesState, base_of, build_at}
use Rattle.q3_map.specs.Map.{MapState}
use Rattle.q3_built.specs.Built.{built_of, is_unclear}
use Rattle.q3_slot.specs.Slot.{SlotState, asked}
use Rattle.q3_slot.specs.Emitting.{begun_next, emit_slot, most_placed, next_snapshot, telling_under}
use Rattle.q3_slot.specs.Slots.{emission_of, game_emission, slot_of, slot_with, snapshot_emission}

-- a snapshot, where a message may be begun and no gamestate is owed
pub emits_snapshot : (profile : Profile) (map : MapState) (frames : FramesState) (c : ℕ) (slot : SlotState) → slot.sending.under_way ≡ None
    → (nat_le sequence_end (slot.sending.number + 1) || nat_lt most_placed frames.placed) ≡ false → is_unclear profile slot.executed.executed ≡ false
    → slot.owed ≡ false → emission_of profile map frames c slot ≡ snapshot_emission profile map frames c slot
emits_snapshot profile map frames c slot idle open_ clear whole =
    ap (emit_slot profile map frames c slot) idle
    ∙ cond-false (nat_le sequence_end (slot.sending.number + 1) || nat_lt most_placed frames.placed) _ _ open_
    ∙ cond-false (is_unclear profile slot.executed.executed) _ _ clear ∙ cond-false slot.owed _ _ whole

-- and the gamestate, where one is owed
pub emits_game : (profile : Profile) (map : MapState) (frames : FramesState) (c : ℕ) (slot : SlotState) → slot.sending.under_way ≡ None
    → (nat_le sequence_end (slot.sending.number + 1) || nat_lt most_placed frames.placed) ≡ false → is_unclear profile slot.executed.executed ≡ false
    → slot.owed ≡ true → emission_of profile map frames c slot ≡ game_emission profile map frames c slot
emits_game profile map frames c slot idle open_ clear owed =
    ap (emit_slot profile map frames c slot) idle
    ∙ cond-false (nat_le sequence_end (slot.sending.number + 1) || nat_lt most_placed frames.placed) _ _ open_
    ∙ cond-false (is_unclear profile slot.executed.executed) _ _ clear ∙ cond-true slot.owed _ _ owed

-- the message with the next snapshot, by what is kept of a slot
pub is_begun : (profile : Profile) (map : MapState) (frames built : FramesState) (c : ℕ) (sending : Sending) (gathering : Gathering) (issued : OutgoingState) (client : Joined)
    (number : ℕ) (snapshot : Snapshot) (baselines : Baselines) → number ≡ sending.number + 1 → snapshot ≡ next_snapshot map (slot_of sending gathering issued client)
    → built ≡ build_at frames c snapshot → baselines ≡ map.baselines
    → built_of (telling_under profile (slot_with issued client) number) baselines (base_of built c number (asked (slot_with issued client))) snapshot
    ≡ begun_next profile map frames c (slot_of sending gathering issued client)
is_begun profile map frames built c sending gathering issued client number snapshot baselines number_is snapshot_is built_is baselines_are =
    rw (number_is, built_is, baselines_are, snapshot_is) refl
