-- How a writer of a list goes along the base: what is gone below a number, and then what is there.
use Rattle.std.specs.Prelude.{ℕ, nat_lt, if◌then◌else◌, Bool, List, [], ◌∷◌, ◌++◌, Some, Result, Ok, Err}
use Rattle.q3_bits.specs.declared.writer.Overflow.{Overflow}
use Rattle.q3_bits.specs.Words.{field_bits}
use Rattle.q3_fields.specs.Kinds.{Layout, end_mark}
use Rattle.q3_entity.specs.declared.state.EntityState.{EntityState}
use Rattle.q3_entity.specs.Baselines.{Baselines}
use Rattle.q3_entity.specs.Delta.{removal}
use Rattle.q3_entity.specs.Lists.{piece}
use Rattle.q3_entity.specs.Runs.{taken, from_number}

-- the removals of the entities below a number
unfoldable pub removals : List (List Bool) → Layout → ℕ → List EntityState → List Bool
removals words table number [] = []
removals words table number (entity ∷ base) = if nat_lt entity.number number then removal words table entity.number ++ removals words table number base else []

-- an entity that there is now, after what is gone below it
abbrev pub entry_bits : List (List Bool) → Layout → Baselines → List EntityState → EntityState → List Bool
entry_bits words table baselines base to =
    removals words table to.number base ++ piece words table baselines to.number (taken to.number (from_number to.number base)).0 (Some to)

-- the end: what is left of the base is gone
abbrev pub end_bits : List (List Bool) → Layout → List EntityState → List Bool
end_bits words table base = removals words table (end_mark table) base ++ field_bits words table.number_bits (end_mark table)

-- what is left of the base after an entity's number
abbrev pub left_after : EntityState → List EntityState → List EntityState
left_after to base = (taken to.number (from_number to.number base)).1

-- the answer of a call that writes, without what it lends
abbrev pub done : {A : Type 0} → Result A Overflow → Result (Unit {0}) Overflow
done (Ok x) = Ok tt
done (Err e) = Err e
