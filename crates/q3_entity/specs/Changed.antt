-- The text of an entity that changed, by its count of fields.
use Rattle.std.specs.Prelude.{ℕ, Bool, List, [], ◌∷◌, ◌++◌}
use Rattle.q3_fields.specs.Kinds.{Layout}
use Rattle.q3_fields.specs.Deltas.{counted_bits}
use Rattle.q3_fields.specs.declared.delta.StateKind.TheVariants.{Entity}
use Rattle.q3_entity.specs.declared.state.EntityState.{EntityState}
use Rattle.q3_entity.specs.Delta.{opening}

-- the number, two marks, the count, and the first fields, so many
abbrev pub changed_delta : List (List Bool) → Layout → ℕ → EntityState → EntityState → List Bool
changed_delta words table count from to = opening words table to.number ((0, 1) ∷ (1, 1) ∷ []) ++ counted_bits Entity words table.kinds count from.words to.words
