-- The entity list: finite maps from numbers to states. It says of each number, in order, what changed.
use Rattle.std.specs.Prelude.{ℕ, zero, suc, ◌+◌, ◌==◌, nat_lt, Bool, false, true, if◌then◌else◌, List, [], ◌∷◌, ◌++◌, length, replicate, Option, Some, None, unwrap_or, Result, Ok, Err}
use Rattle.std.specs.List.{range_with_len, flat_map}
use Rattle.std.specs.Option.{is_some}
use Rattle.q3_bits.specs.ResultBind.{◌>>=◌}
use Rattle.q3_bits.specs.Words.{field_bits, field_at}
use Rattle.q3_fields.specs.Kinds.{Layout, end_mark}
use Rattle.q3_entity.specs.declared.state.EntityState.{EntityState}
use Rattle.q3_entity.specs.declared.reading.Entry.{Entry}
use Rattle.q3_entity.specs.declared.reading.Entry.TheVariants.{Removed}
use Rattle.q3_entity.specs.declared.error.EntityError.{EntityError}
use Rattle.q3_entity.specs.declared.error.EntityError.TheVariants.{Order, Many, Removes}
use Rattle.q3_entity.specs.Entities.{most_entities, with_number}
use Rattle.q3_entity.specs.Baselines.{Baselines, baseline_of}
use Rattle.q3_entity.specs.Delta.{bits_read, removal, entity_delta, entity_at}

-- what is said of a number: an entity in both is written unforced, a new one by force from its baseline, one that is
-- gone is removed, and of a number in neither nothing is said
abbrev pub piece : List (List Bool) → Layout → Baselines → ℕ → Option EntityState → Option EntityState → List Bool
piece words table baselines number (Some from) (Some to) = entity_delta words table from to false
piece words table baselines number None (Some to) = entity_delta words table (baseline_of baselines number) to true
piece words table baselines number (Some from) None = removal words table number
piece words table baselines number None None = []

-- the list of the entities that there are now, against those of a base: the piece of each number, and the end mark
unfoldable pub entity_list_bits : List (List Bool) → Layout → Baselines → List EntityState → List EntityState → List Bool
entity_list_bits words table baselines base now =
    flat_map (λ number. piece words table baselines number (with_number number base) (with_number number now)) (range_with_len 0 (end_mark table))
    ++ field_bits words table.number_bits (end_mark table)

-- the next number of the list, which is refused below the least one that may come
unfoldable pub number_at : List (List Bool) → Layout → ℕ → List Bool → Result (ℕ × List Bool) EntityError
number_at words table least bits = do
  number ← bits_read (field_at words table.number_bits bits)
  if nat_lt number.0 least then Err (Order number.0) else Ok number

-- one entity more, if there are fewer than 256
abbrev pub one_more : List EntityState → EntityState → Result (List EntityState) EntityError
one_more entities entity = if nat_lt (length entities) most_entities then Ok (entities ++ entity ∷ []) else Err Many

-- an entity of the base that has no entry stays
abbrev pub stays : List EntityState → Option EntityState → Result (List EntityState) EntityError
stays entities None = Ok entities
stays entities (Some entity) = one_more entities entity

-- an entry that was read: only what the base has may be removed, and any other counts as one entity
abbrev pub entered : List EntityState → Bool → ℕ → Entry → List ℕ → Result (List EntityState) EntityError
entered entities in_base number Removed words = if in_base then Ok entities else Err (Removes number)
entered entities in_base number other words = one_more entities (record { number = number; words = words })

-- the words that an entry changed from: those of the base's entity, else of the baseline
abbrev pub words_from : Baselines → ℕ → Option EntityState → List ℕ
words_from baselines number from = (unwrap_or from (baseline_of baselines number)).words

-- the entities of the result from a number on, so many numbers, where the next entry has the number `next`: it is read
-- when its number comes, and of the numbers before it the base's entities stay
unfoldable pub numbers_at : List (List Bool) → Layout → Baselines → List EntityState → ℕ → ℕ → ℕ → List EntityState → List Bool
    → Result (List EntityState × List Bool) EntityError
numbers_at words table baselines base zero number next entities bits = Ok (entities, bits)
numbers_at words table baselines base (suc left) number next entities bits =
    if number == next then (do
      entry ← entity_at words table (words_from baselines number (with_number number base)) bits
      now ← entered entities (is_some (with_number number base)) number entry.0.0 entry.0.1
      more ← number_at words table (number + 1) entry.1
      numbers_at words table baselines base left (number + 1) more.0 now more.1)
    else (do
      kept ← stays entities (with_number number base)
      numbers_at words table baselines base left (number + 1) next kept bits)

-- the entities after a list against a base, and what follows it, or the first fault in reading order
unfoldable pub entity_list_at : List (List Bool) → Layout → Baselines → List EntityState → List Bool → Result (List EntityState × List Bool) EntityError
entity_list_at words table baselines base bits = do
  first ← number_at words table 0 bits
  numbers_at words table baselines base (end_mark table) 0 first.0 [] first.1

-- what follows a list whose base isn't there: its bits, counts and rising numbers are looked at alone
unfoldable pub numbers_skipped : List (List Bool) → Layout → ℕ → ℕ → ℕ → List Bool → Result (Unit {0} × List Bool) EntityError
numbers_skipped words table zero number next bits = Ok (tt, bits)
numbers_skipped words table (suc left) number next bits =
    if number == next then (do
      entry ← entity_at words table (replicate 64 0) bits
      more ← number_at words table (number + 1) entry.1
      numbers_skipped words table left (number + 1) more.0 more.1)
    else numbers_skipped words table left (number + 1) next bits

unfoldable pub list_skipped : List (List Bool) → Layout → List Bool → Result (Unit {0} × List Bool) EntityError
list_skipped words table bits = do
  first ← number_at words table 0 bits
  numbers_skipped words table (end_mark table) 0 first.0 first.1
