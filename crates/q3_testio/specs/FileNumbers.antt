-- The numbers that files in memory are known by.
use Rattle.std.specs.Prelude.{ℕ, Bool, if◌then◌else◌, List, [], ◌∷◌}
use Rattle.q3_io.specs.Told.{Named, Call, Lookup, Create}

-- what is told of each number, what was named, how many numbers more there may be, and how many bytes their names may have
pub record NumbersState : Type 0 where
  pub numbers : List (List ℕ)
  pub asked : List ℕ
  pub named : List Named
  pub spare : ℕ
  pub room : ℕ

abbrev pub call_of : Bool → Call
call_of creates = if creates then Create else Lookup

-- names, each with its call
unfoldable pub named_of : List (List ℕ) → List Bool → List Named
named_of (name ∷ names) (creates ∷ calls) = record { name = name; call = call_of creates } ∷ named_of names calls
named_of [] calls = []
named_of names [] = []
