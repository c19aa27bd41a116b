-- How a reader of a list walks along the base: entities are passed in order, each of them once.
use Rattle.std.specs.Prelude.{◌≡◌, ℕ, ◌+◌, nat_lt, Bool, if◌then◌else◌, List, [], ◌∷◌, ◌++◌, take, Result, Ok, Err}
use Rattle.std.specs.Option.{is_some}
use Rattle.q3_bits.specs.ResultBind.{◌>>=◌}
use Rattle.q3_fields.specs.Kinds.{Layout}
use Rattle.q3_entity.specs.declared.state.EntityState.{EntityState}
use Rattle.q3_entity.specs.declared.state.Run.{Run}
use Rattle.q3_entity.specs.declared.list_reading.Cursor.{Cursor}
use Rattle.q3_entity.specs.declared.error.EntityError.{EntityError}
use Rattle.q3_entity.specs.declared.error.EntityError.TheVariants.{Many, Removes}
use Rattle.q3_entity.specs.declared.reading.Entry.{Entry}
use Rattle.q3_entity.specs.declared.reading.Entry.TheVariants.{Removed}
use Rattle.q3_entity.specs.Entities.{run_of, most_entities}
use Rattle.q3_entity.specs.Baselines.{Baselines}
use Rattle.q3_entity.specs.Delta.{entity_at}
use Rattle.q3_entity.specs.Lists.{number_at, one_more, entered, words_from}
use Rattle.q3_entity.specs.Runs.{taken, IsFrom}

-- the entities below a number stay, and those from it on are left
unfoldable pub kept_below : ℕ → List EntityState → List EntityState → Result (List EntityState × List EntityState) EntityError
kept_below number entities [] = Ok (entities, [])
kept_below number entities (entity ∷ base) =
    if nat_lt entity.number number then (one_more entities entity >>= λ more. kept_below number more base) else Ok (entities, entity ∷ base)

-- the first entities of a part stay, as far as they are below a number, and these are left of it
pub record KeepsFront (number : ℕ) (entities part kept left : List EntityState) : Type 0 where
  pub goes_on : (after : List EntityState) → kept_below number entities (part ++ after) ≡ kept_below number kept (left ++ after)
  pub from : IsFrom number left

-- where a list stands: its next number, what is left of the base, and the entities so far
pub record Reached : Type 0 where
  pub next : ℕ
  pub base : List EntityState
  pub entities : List EntityState

-- the next number, up to which the base's entities stay
unfoldable pub next_at : List (List Bool) → Layout → ℕ → List EntityState → List EntityState → List Bool → Result (Reached × List Bool) EntityError
next_at words table least base entities bits = do
  number ← number_at words table least bits
  kept ← kept_below number.0 entities base
  Ok (record { next = number.0; base = kept.1; entities = kept.0 }, number.1)

-- the entities with what follows a number
unfoldable pub entry_at : List (List Bool) → Layout → List ℕ → Bool → ℕ → List EntityState → List Bool → Result (List EntityState × List Bool) EntityError
entry_at words table from in_base number entities bits = do
  entry ← entity_at words table from bits
  now ← entered entities in_base number entry.0.0 entry.0.1
  Ok (now, entry.1)

-- the entry of the next number, and what comes after it
unfoldable pub turn_at : List (List Bool) → Layout → Baselines → Reached → List Bool → Result (Reached × List Bool) EntityError
turn_at words table baselines at bits = do
  entry ← entry_at words table (words_from baselines at.next (taken at.next at.base).0) (is_some (taken at.next at.base).0) at.next at.entities bits
  next_at words table (at.next + 1) (taken at.next at.base).1 entry.0 entry.1

-- what follows the entry of a number: the number of the next
unfoldable pub skipped_at : List (List Bool) → Layout → List ℕ → ℕ → List Bool → Result (ℕ × List Bool) EntityError
skipped_at words table from number bits = do
  entry ← entity_at words table from bits
  number_at words table (number + 1) entry.1

-- how many entities there are after an entry that was read: only what the base has may be removed, and any other counts
-- as one entity
abbrev pub count_after : ℕ → Bool → ℕ → Entry → Result ℕ EntityError
count_after count in_base number Removed = if in_base then Ok count else Err (Removes number)
count_after count in_base number other = if nat_lt count most_entities then Ok (count + 1) else Err Many

-- the answer of a call that puts entities after the first of those that are there, and counts them
abbrev pub first_of : List EntityState → Result ℕ EntityError → Result (List EntityState) EntityError
first_of items (Ok count) = Ok (take count items)
first_of items (Err e) = Err e

-- the answer of a call that keeps entities, counts them, and lends what is left of the base
abbrev pub with_kept : List EntityState → Result (Run × ℕ) EntityError → Result (List EntityState × List EntityState) EntityError
with_kept items (Ok kept) = Ok (take kept.1 items, run_of kept.0)
with_kept items (Err e) = Err e

-- the answer of a call that reads on
abbrev pub reached : List EntityState → Result Cursor EntityError → Result Reached EntityError
reached items (Ok cursor) = Ok (record { next = cursor.next; base = run_of cursor.base; entities = take cursor.count items })
reached items (Err e) = Err e
