-- The frames that a server holds stay snapshots as it builds them.
use Rattle.std.proofs.Common.{◌≡◌, ℕ, ◌+◌, ◌^◌, ◌<◌, Bool, true, false, [], Option, Some, None, refl, sym, subst, inl, inr, arith, lit<}
use Rattle.std.specs.Prelude.{if◌then◌else◌, IfSome}
use Rattle.std.proofs.lemmas.List.Elements.{All-nil}
use Rattle.q3_profile.specs.declared.profile.Profile.{Profile}
use Rattle.q3_player.specs.State.{zero_player}
use Rattle.q3_chan.specs.Datagrams.{sequence_end}
use Rattle.q3_entity_ring.specs.Snapshot.{Snapshot}
use Rattle.q3_frames.specs.Frames.{FramesState, no_frames, held_frame}
use Rattle.q3_map.specs.Map.{MapState}
use Rattle.q3_slot.specs.declared.stage.ClientStage.{ClientStage}
use Rattle.q3_slot.specs.declared.stage.ClientStage.TheVariants.{Connected, Primed, Active}
use Rattle.q3_built.specs.Built.{IsHeld, IsArea, IsSnapshot}
use Rattle.q3_slot.specs.Slot.{SlotState, is_active}
use Rattle.q3_slot.specs.Emitting.{snapshot_flags, played_snapshot, waiting_snapshot, next_snapshot, next_frames}
use Rattle.q3_server.specs.Standing.{IsMap, IsJoined, HoldSnapshots, Below}
use Rattle.q3_server.proofs.KeepsMap.{none_held}

-- what is held under a number, where it is known
pub held_is : (profile : Profile) (frames : FramesState) (c number : ℕ) (held : Snapshot) → HoldSnapshots profile frames → held_frame frames c number ≡ Some held → IsSnapshot profile held
held_is profile frames c number held holds is = subst (λ (found : Option Snapshot). IfSome found (IsSnapshot profile)) is (holds.each c number)

-- where nothing was built
pub snapshots_none : Below → (profile : Profile) (count ring : ℕ) → HoldSnapshots profile (no_frames count ring)
snapshots_none below profile count ring = record {
  each = λ c number. subst (λ (found : Option Snapshot). IfSome found (IsSnapshot profile)) (sym (below.nothing count ring c number)) tt;
}

-- ---- the next frame

-- no area bytes
pub no_area : IsArea []
no_area = record { bytes = All-nil (λ (byte : ℕ). byte < 256); short = omega arith }

-- flags are a byte
flags_fit : (count delayed : Bool) (stage : ClientStage) → snapshot_flags count delayed stage < 2 ^ 8
flags_fit false false Connected = lit< tt
flags_fit true false Connected = lit< tt
flags_fit false true Connected = lit< tt
flags_fit true true Connected = lit< tt
flags_fit false false (Primed game) = lit< tt
flags_fit true false (Primed game) = lit< tt
flags_fit false true (Primed game) = lit< tt
flags_fit true true (Primed game) = lit< tt
flags_fit false false (Active game) = lit< tt
flags_fit true false (Active game) = lit< tt
flags_fit false true (Active game) = lit< tt
flags_fit true true (Active game) = lit< tt

module _ (below : Below) (profile : Profile) (map : MapState) (slot : SlotState) (is_map : IsMap profile map) (zero_is : IsHeld profile zero_player) (joined : IsJoined profile map.id slot) where
  pub next_is_snapshot : slot.sending.number + 1 < sequence_end → IsSnapshot profile (next_snapshot map slot)
  next_is_snapshot fits = of_active (is_active slot.stage)
    where
      of_active : (active : Bool) → IsSnapshot profile (if active then played_snapshot map slot else waiting_snapshot map slot)
      of_active true = record {
        number = fits;
        time = is_map.time;
        flags = flags_fit map.count slot.delayed slot.stage;
        area = joined.area;
        player = joined.player;
        entities = below.lists.lowest profile.entity map.entities is_map.entities;
        few = below.lists.few map.entities;
      }
      of_active false = record {
        number = fits;
        time = is_map.time;
        flags = flags_fit map.count slot.delayed slot.stage;
        area = no_area;
        player = zero_is;
        entities = none_held profile.entity;
        few = omega arith;
      }

  -- once it was built
  pub snapshots_next : (frames : FramesState) (c : ℕ) → slot.sending.number + 1 < sequence_end → HoldSnapshots profile frames → HoldSnapshots profile (next_frames map frames c slot)
  snapshots_next frames c fits holds = record { each = λ k number. of_found k number (held_frame (next_frames map frames c slot) k number) refl }
    where
      of_found : (k number : ℕ) (found : Option Snapshot) → held_frame (next_frames map frames c slot) k number ≡ found → IfSome found (IsSnapshot profile)
      of_found k number None is = tt
      of_found k number (Some held) is =
          elim (below.held frames c k number (next_snapshot map slot) held is) [
            | inl this ↦ subst (IsSnapshot profile) (sym this.2) (next_is_snapshot fits)
            | inr before ↦ held_is profile frames k number held holds before.1
          ]
