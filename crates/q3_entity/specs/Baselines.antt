-- Baselines: a state for some of the numbers, from which an entity is written that is new.
use Rattle.std.specs.Prelude.{◌≡◌, ◌<◌, ℕ, List, length, replicate, Option, Some, None, slice_index_or, slice_set, unwrap_or, IfSome}
use Rattle.std.specs.List.{filter_map}
use Rattle.q3_fields.specs.States.{AreWords}
use Rattle.q3_fields.specs.Kinds.{Layout, end_mark, most_end}
use Rattle.q3_entity.specs.declared.state.EntityState.{EntityState}
use Rattle.q3_entity.specs.Entities.{zero_entity, IsNormal}

-- for each number the state that was set, if one was
abbrev pub Baselines : Type 0
Baselines = List (Option EntityState)

-- how many numbers may have a baseline: those below the end mark of the widest table
abbrev pub most_baselines : ℕ
most_baselines = most_end

abbrev pub no_baselines : Baselines
no_baselines = replicate most_baselines None

-- the state that was set for a number, if one was
abbrev pub set_at : Baselines → ℕ → Option EntityState
set_at baselines number = slice_index_or baselines number None

-- the baseline of a number: the zero state where none was set
abbrev pub baseline_of : Baselines → ℕ → EntityState
baseline_of baselines number = unwrap_or (set_at baselines number) (zero_entity number)

-- a state set under its number
abbrev pub with_baseline : Baselines → EntityState → Baselines
with_baseline baselines state = slice_set baselines state.number (Some state)

-- the states that are set, by number
abbrev pub set_baselines : Baselines → List EntityState
set_baselines baselines = filter_map (λ baseline. baseline) baselines

-- each state that is set stands under its number, which is below the end mark, and is one of the program's type in normal form
pub record AreBaselines (table : Layout) (baselines : Baselines) : Type 0 where
  pub places : length baselines ≡ most_baselines
  pub numbers : (number : ℕ) → IfSome (set_at baselines number) (λ state. state.number ≡ number)
  pub below : (number : ℕ) → IfSome (set_at baselines number) (λ state. state.number < end_mark table)
  pub states : (number : ℕ) → IfSome (set_at baselines number) (λ state. AreWords 64 state.words)
  pub normal : (number : ℕ) → IfSome (set_at baselines number) (IsNormal table)
