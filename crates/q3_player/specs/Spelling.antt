-- The spellings of a player delta that a reader accepts: those of its words, and of its arrays also a place that is
-- marked as changed and isn't, and arrays that are marked as changed without a changed place.
use Rattle.std.specs.Prelude.{◌≡◌, ◌⊎◌, ℕ, Bool, List, [], ◌∷◌, ◌++◌}
use Rattle.q3_bits.specs.Words.{field_bits}
use Rattle.q3_fields.specs.declared.kind.Kind.{Kind}
use Rattle.q3_fields.specs.Places.{Change, with_changes, AreRising}
use Rattle.q3_fields.specs.declared.delta.StateKind.TheVariants.{Player}
use Rattle.q3_fields.specs.Spelling.{SpellsPlayerField, SpellsWords}
use Rattle.q3_player.specs.declared.state.PlayerState.{PlayerState}
use Rattle.q3_player.specs.State.{array_kinds, arrays_of}
use Rattle.q3_player.specs.Arrays.{mask_of}

-- the values of these places are spelled one after the other
abbrev pub SpellsValues : List (List Bool) → Kind → List Change → List Bool → Type 0
SpellsValues words kind [] text = text ≡ []
SpellsValues words kind (change ∷ others) text =
    (first : List Bool) × (rest : List Bool) × (text ≡ first ++ rest) × SpellsPlayerField words kind change.1 first × SpellsValues words kind others rest

-- an array: unmarked and as it was, or marked, with a map of values that are put over it
abbrev pub SpellsArray : List (List Bool) → Kind → List ℕ → List ℕ → List Bool → Type 0
SpellsArray words kind from to text =
    ((to ≡ from) × (text ≡ field_bits words 1 0))
    ⊎ ((changed : List Change) × (values : List Bool) × AreRising 16 0 changed × (to ≡ with_changes from changed) × SpellsValues words kind changed values
    × (text ≡ field_bits words 1 1 ++ field_bits words 16 (mask_of changed) ++ values))

-- the arrays of these kinds, one after the other
abbrev pub SpellsArrays : List (List Bool) → List Kind → List (List ℕ) → List (List ℕ) → List Bool → Type 0
SpellsArrays words (kind ∷ kinds) (x ∷ from) to text =
    (y : List ℕ) × (others : List (List ℕ)) × (first : List Bool) × (rest : List Bool) × (to ≡ y ∷ others) × (text ≡ first ++ rest)
    × SpellsArray words kind x y first × SpellsArrays words kinds from others rest
SpellsArrays words kinds from to text = (to ≡ from) × (text ≡ [])

-- all unmarked and as they were, or marked and spelled
abbrev pub SpellsMarked : List (List Bool) → List (List ℕ) → List (List ℕ) → List Bool → Type 0
SpellsMarked words from to text =
    ((to ≡ from) × (text ≡ field_bits words 1 0))
    ⊎ ((arrays : List Bool) × SpellsArrays words array_kinds from to arrays × (text ≡ field_bits words 1 1 ++ arrays))

-- the text spells the state `to` against the state `from`
pub record SpellsPlayer (words : List (List Bool)) (table : List Kind) (from to : PlayerState) (text : List Bool) : Type 0 where
  pub fields : List Bool
  pub arrays : List Bool
  pub of_words : SpellsWords Player words table from.words to.words fields
  pub of_arrays : SpellsMarked words (arrays_of from) (arrays_of to) arrays
  pub whole : text ≡ fields ++ arrays
