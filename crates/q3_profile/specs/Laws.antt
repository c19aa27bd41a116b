-- What is checked names a rule.
use Rattle.std.specs.Prelude.{◌≡◌, ℕ, List, Err}
use Rattle.q3_bits.specs.declared.words.CodeError.TheVariants as codes
use Rattle.q3_profile.specs.declared.error.ProfileError.{ProfileError}
use Rattle.q3_profile.specs.declared.error.ProfileError.TheVariants as errors
use Rattle.q3_profile.specs.Profile.{checked}

-- an error that names a rule of the file, and isn't want of memory
abbrev pub NamesRule : ProfileError → Type 0
NamesRule errors.NoMemory = ⊥
NamesRule (errors.Code codes.NoMemory) = ⊥
NamesRule e = Unit {0}

-- what a file breaks is a rule
abbrev pub CheckedNamesRule : Type 0
CheckedNamesRule = (bytes : List ℕ) (e : ProfileError) → checked bytes ≡ Err e → NamesRule e
