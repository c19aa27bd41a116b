-- Changes of values: places, each with the word that is put there.
use Rattle.std.specs.Prelude.{ℕ, ◌+◌, ◌<◌, ◌≤◌, List, [], ◌∷◌, slice_set}

-- a place, and the word that is put there
abbrev pub Change : Type 0
Change = ℕ × ℕ

-- these changes put over the values
unfoldable pub with_changes : List ℕ → List Change → List ℕ
with_changes values [] = values
with_changes values (change ∷ others) = with_changes (slice_set values change.0 change.1) others

-- the places rise, from least on, and stay below a limit
abbrev pub AreRising : ℕ → ℕ → List Change → Type 0
AreRising limit least [] = Unit {0}
AreRising limit least (change ∷ others) = (least ≤ change.0) × (change.0 < limit) × AreRising limit (change.0 + 1) others
