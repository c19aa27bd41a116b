-- What is left after a snapshot that was read against its base.
use Rattle.std.proofs.Common.{◌≡◌, ℕ, Bool, true, false, if◌then◌else◌, refl, sym, subst}
use Rattle.q3_entity_ring.specs.Snapshot.{Snapshot}
use Rattle.q3_rings.specs.Rings.{accept_at, held_snapshot}
use Rattle.q3_clstate.specs.declared.applied.SnapOutcome.TheVariants.{Skipped, Stale}
use Rattle.q3_clstate.specs.State.{AppliedState, passes, accepts, skipped_for}
use Rattle.q3_clstate.specs.Standing.{IsApplied}

-- a stale one leaves what is held
pub snap_state : (state : AppliedState) (number base : ℕ) (snapshot : Snapshot) (stale : Bool)
    → record state { number = number; held = if stale then state.held else accept_at state.held snapshot }
    ≡ (if stale then passes state number Stale else accepts state number base snapshot).state
snap_state state number base snapshot true = refl
snap_state state number base snapshot false = refl

-- and so does one that was skipped
pub skip_state : (state : AppliedState) (number base : ℕ) (stale : Bool)
    → record state { number = number }
    ≡ (if stale then passes state number Stale else passes state number (Skipped base (skipped_for (held_snapshot state.held base)))).state
skip_state state number base true = refl
skip_state state number base false = refl

-- what holds of one state holds of the same under another name
pub stands_as : (after state : AppliedState) → IsApplied after → state ≡ after → IsApplied state
stands_as after state is same = subst IsApplied (sym same) is
