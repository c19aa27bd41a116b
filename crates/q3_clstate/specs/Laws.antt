-- Laws of what the messages that were applied left.
use Rattle.std.specs.Prelude.{ℕ, ◌+◌, ◌^◌, ◌<◌, ◌≤◌, List}
use Rattle.q3_profile.specs.declared.profile.Profile.{Profile}
use Rattle.q3_profile.specs.Profile.{IsCodec}
use Rattle.q3_svmsg.specs.Laws.{IsContext}
use Rattle.q3_clstate.specs.State.{AppliedState, new_state, context_of, apply_at, state_after_message}
use Rattle.q3_entity.specs.Entities.{most_entities}
use Rattle.q3_clstate.specs.Standing.{IsApplied}
use Rattle.q3_clstate.specs.Within.{IsWithin}

-- all that a state holds is well formed and in range: at first, and after any bytes as a message of any number
pub record ApplyStays : Type 0 where
  pub none : (profile : Profile) → IsCodec profile → 512 ≤ profile.parse_ring → IsApplied (new_state profile)
  pub apply : (state : AppliedState) (number : ℕ) (message : List ℕ) → number < 2 ^ 32 → IsApplied state
      → IsApplied (state_after_message state (apply_at state number message))

-- and so is what a message is read against
abbrev pub AppliedIsContext : Type 0
AppliedIsContext = (state : AppliedState) → IsApplied state → IsContext state.profile (context_of state.held state.baselines)

-- messages of numbers below 2^31 keep a state within its limits: each makes what is held older by as many entities as a snapshot may have
pub record WithinStays : Type 0 where
  pub none : (profile : Profile) → IsWithin 0 (new_state profile)
  pub apply : (state : AppliedState) (most number : ℕ) (message : List ℕ) → number < 2 ^ 31 → IsApplied state → IsWithin most state
      → IsWithin (most + most_entities) (state_after_message state (apply_at state number message))
