-- The text of an entity delta, by whether a field changed.
use Rattle.std.proofs.Common.{◌≡◌, ◌≢◌, ℕ, ◌/◌, ◌%◌, Bool, List, [], ◌∷◌, ◌++◌, refl, arith}
use Rattle.q3_bits.specs.Bits.{low_bits}
use Rattle.q3_bits.specs.Words.{bytes_bits, field_bits, row_bits}
use Rattle.std.proofs.lemmas.Bool.{ne_eqb}
use Rattle.q3_fields.specs.Kinds.{Layout}
use Rattle.q3_fields.specs.Deltas.{changed_count, counted_bits, words_delta}
use Rattle.q3_fields.specs.declared.delta.StateKind.TheVariants.{Entity}
use Rattle.q3_entity.specs.declared.state.EntityState.{EntityState}
use Rattle.q3_entity.specs.Delta.{opening, unchanged, entity_delta}

-- an entity that changed
pub entity_delta-changed : (words : List (List Bool)) (table : Layout) (from to : EntityState) (force : Bool) → changed_count table.kinds from.words to.words ≢ 0
    → entity_delta words table from to force
    ≡ opening words table to.number ((0, 1) ∷ (1, 1) ∷ []) ++ counted_bits Entity words table.kinds (changed_count table.kinds from.words to.words) from.words to.words
unfolding entity_delta words_delta
entity_delta-changed words table from to force some = rw (ne_eqb (changed_count table.kinds from.words to.words) 0 some) refl

-- one that didn't
pub entity_delta-unchanged : (words : List (List Bool)) (table : Layout) (from to : EntityState) (force : Bool) → changed_count table.kinds from.words to.words ≡ 0
    → entity_delta words table from to force ≡ unchanged words table to.number force
unfolding entity_delta
entity_delta-unchanged words table from to force none = rw none refl

-- two marks after a number are a field of two bits
pub opening-marks : (words : List (List Bool)) (table : Layout) (number marks : ℕ)
    → opening words table number ((marks % 2, 1) ∷ (marks / 2, 1) ∷ []) ≡ field_bits words table.number_bits number ++ field_bits words 2 marks
unfolding low_bits bytes_bits field_bits row_bits
opening-marks words table number marks =
    let first : marks % 2 % 2 ≡ marks % 2 = omega arith in
    rw first refl
