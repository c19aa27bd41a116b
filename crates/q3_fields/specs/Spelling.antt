-- The spellings of a changed field and of a delta of words that a reader accepts: also a float zero in 13 bits or a
-- small float in 32, and an integer zero after bit 1. What is spelled is always a normal word.
use Rattle.std.specs.Prelude.{◌≡◌, ◌⊎◌, ℕ, ◌^◌, ◌<◌, ◌≤◌, Bool, List, [], ◌∷◌, ◌++◌, length, take}
use Rattle.q3_bits.specs.Words.{field_bits}
use Rattle.q3_fields.specs.declared.kind.Kind.{Kind}
use Rattle.q3_fields.specs.declared.kind.Kind.TheVariants.{Float, Unsigned, Signed}
use Rattle.q3_fields.specs.declared.delta.StateKind.{StateKind}
use Rattle.q3_fields.specs.declared.delta.StateKind.TheVariants.{Entity, Player}
use Rattle.q3_fields.specs.Kinds.{norm}
use Rattle.q3_fields.specs.Floats.{pattern}
use Rattle.q3_fields.specs.Texts.{unbiased}

-- a float by the number whose pattern it is, or by its pattern
abbrev pub SpellsFloat : List (List Bool) → ℕ → List Bool → Type 0
SpellsFloat words word text =
    ((value : ℕ) × (value < 2 ^ 13) × (word ≡ pattern (unbiased value)) × (text ≡ field_bits words 1 0 ++ field_bits words 13 value))
    ⊎ ((value : ℕ) × (value < 2 ^ 32) × (word ≡ norm Float value) × (text ≡ field_bits words 1 1 ++ field_bits words 32 value))

-- an integer by its bits
abbrev pub SpellsInteger : List (List Bool) → Kind → ℕ → ℕ → List Bool → Type 0
SpellsInteger words kind width word text =
    (value : ℕ) × (value < 2 ^ width) × (word ≡ norm kind value) × (text ≡ field_bits words width value)

abbrev pub SpellsPlayerField : List (List Bool) → Kind → ℕ → List Bool → Type 0
SpellsPlayerField words Float word text = SpellsFloat words word text
SpellsPlayerField words (Unsigned width) word text = SpellsInteger words (Unsigned width) width word text
SpellsPlayerField words (Signed width) word text = SpellsInteger words (Signed width) width word text

abbrev pub SpellsEntityField : List (List Bool) → Kind → ℕ → List Bool → Type 0
SpellsEntityField words kind word text =
    ((word ≡ 0) × (text ≡ field_bits words 1 0))
    ⊎ ((field : List Bool) × SpellsPlayerField words kind word field × (text ≡ field_bits words 1 1 ++ field))

-- a changed field of an entity or of a player
abbrev pub SpellsChanged : StateKind → List (List Bool) → Kind → ℕ → List Bool → Type 0
SpellsChanged Entity words kind word text = SpellsEntityField words kind word text
SpellsChanged Player words kind word text = SpellsPlayerField words kind word text

-- a field that is as it was, or one that is marked as changed, whatever it was
abbrev pub SpellsField : StateKind → List (List Bool) → Kind → ℕ → ℕ → List Bool → Type 0
SpellsField state words kind from to text =
    ((to ≡ from) × (text ≡ field_bits words 1 0))
    ⊎ ((field : List Bool) × SpellsChanged state words kind to field × (text ≡ field_bits words 1 1 ++ field))

-- the fields of these kinds are spelled, and the words after them stay
abbrev pub SpellsFields : StateKind → List (List Bool) → List Kind → List ℕ → List ℕ → List Bool → Type 0
SpellsFields state words (kind ∷ kinds) (x ∷ from) to text =
    (y : ℕ) × (others : List ℕ) × (first : List Bool) × (rest : List Bool) × (to ≡ y ∷ others) × (text ≡ first ++ rest)
    × SpellsField state words kind x y first × SpellsFields state words kinds from others rest
SpellsFields state words kinds from to text = (to ≡ from) × (text ≡ [])

-- the text spells the words `to` against the words `from`: also by a larger count, and with fields that are marked as
-- changed and aren't
pub record SpellsWords (state : StateKind) (words : List (List Bool)) (table : List Kind) (from to : List ℕ) (text : List Bool) : Type 0 where
  pub count : ℕ
  pub fields : List Bool
  pub in_table : count ≤ length table
  pub of_fields : SpellsFields state words (take count table) from to fields
  pub whole : text ≡ field_bits words 8 count ++ fields
