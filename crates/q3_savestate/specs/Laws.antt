-- Laws of states and their bytes.
use Rattle.std.specs.Prelude.{◌≡◌, ℕ, ◌^◌, ◌<◌, ◌≤◌, List, All, Ok}
use Rattle.q3_profile.specs.declared.profile.Profile.{Profile}
use Rattle.q3_profile.specs.Profile.{IsCodec}
use Rattle.q3_clstate.specs.State.{AppliedState}
use Rattle.q3_clstate.specs.Standing.{IsApplied}
use Rattle.q3_clstate.specs.Within.{IsWithin}
use Rattle.q3_savestate.specs.State.{Saved, state_bytes, state_at}
use Rattle.q3_savestate.specs.Applied.{saved_in, applied_by}
use Rattle.q3_savestate.specs.Standing.{IsSaved}

-- what is written of a state is read as that state
abbrev pub WrittenIsRead : Type 0
WrittenIsRead = (profile : Profile) (saved : Saved) → IsCodec profile → 512 ≤ profile.parse_ring → IsSaved profile saved
    → state_at profile (state_bytes profile saved) ≡ Ok saved

-- what is read is a state that is well formed and in range, and was written so: of each state there is one spelling
abbrev pub ReadIsWritten : Type 0
ReadIsWritten = (profile : Profile) (bytes : List ℕ) (saved : Saved) → IsCodec profile → 512 ≤ profile.parse_ring → All (λ byte. byte < 256) bytes
    → state_at profile bytes ≡ Ok saved → IsSaved profile saved × (bytes ≡ state_bytes profile saved)

-- ---- of a client's whole state

-- what is saved of a state is well formed and in range, and what is so saved is that of a state
pub record SavedIsApplied : Type 0 where
  pub saved : (state : AppliedState) (most : ℕ) → most < 2 ^ 32 → IsApplied state → IsWithin most state → IsSaved state.profile (saved_in state)
  pub applied : (profile : Profile) (saved : Saved) → IsCodec profile → IsSaved profile saved → IsApplied (applied_by profile saved)

-- what is written of a state is read as that state
abbrev pub WrittenStateIsRead : Type 0
WrittenStateIsRead = (state : AppliedState) (most : ℕ) → most < 2 ^ 32 → IsApplied state → IsWithin most state
    → state_at state.profile (state_bytes state.profile (saved_in state)) ≡ Ok (saved_in state)

-- what is read was written so, and is a state
abbrev pub ReadStateIsWritten : Type 0
ReadStateIsWritten = (profile : Profile) (bytes : List ℕ) (saved : Saved) → IsCodec profile → 512 ≤ profile.parse_ring → All (λ byte. byte < 256) bytes
    → state_at profile bytes ≡ Ok saved → IsApplied (applied_by profile saved) × (bytes ≡ state_bytes profile saved)
