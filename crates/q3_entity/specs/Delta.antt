-- The entity delta: the one text that is written, and what a reader answers after an entity's number.
use Rattle.std.specs.Prelude.{ℕ, ◌==◌, Bool, if◌then◌else◌, List, [], ◌∷◌, ◌++◌, Result, Ok, Err}
use Rattle.q3_bits.specs.ResultBind.{◌>>=◌, fault_as}
use Rattle.q3_bits.specs.Words.{field_at, row_bits}
use Rattle.q3_bits.specs.declared.reader.ReadError.{ReadError}
use Rattle.q3_fields.specs.Kinds.{Layout}
use Rattle.q3_fields.specs.declared.delta.StateKind.TheVariants.{Entity}
use Rattle.q3_fields.specs.declared.delta.DeltaError.{DeltaError}
use Rattle.q3_fields.specs.declared.delta.DeltaError.TheVariants as delta
use Rattle.q3_fields.specs.Deltas.{changed_count, words_delta, words_at}
use Rattle.q3_entity.specs.declared.state.EntityState.{EntityState}
use Rattle.q3_entity.specs.declared.reading.Entry.{Entry}
use Rattle.q3_entity.specs.declared.reading.Entry.TheVariants.{Removed, Changed, Same}
use Rattle.q3_entity.specs.declared.error.EntityError.{EntityError}
use Rattle.q3_entity.specs.declared.error.EntityError.TheVariants.{Bits, Count}

-- a number, and one bit each for a removal and for a change
abbrev pub opening : List (List Bool) → Layout → ℕ → List (ℕ × ℕ) → List Bool
opening words table number marks = row_bits words ((number, table.number_bits) ∷ marks)

-- an entity that is gone
unfoldable pub removal : List (List Bool) → Layout → ℕ → List Bool
removal words table number = opening words table number ((1, 1) ∷ [])

-- an entity that didn't change: nothing, or by force its number and two bits 0
abbrev pub unchanged : List (List Bool) → Layout → ℕ → Bool → List Bool
unchanged words table number force = if force then opening words table number ((0, 1) ∷ (0, 1) ∷ []) else []

-- an entity against the state that it changed from: a forced one is written also without a change
unfoldable pub entity_delta : List (List Bool) → Layout → EntityState → EntityState → Bool → List Bool
entity_delta words table from to force =
    if changed_count table.kinds from.words to.words == 0 then unchanged words table to.number force
    else opening words table to.number ((0, 1) ∷ (1, 1) ∷ []) ++ words_delta Entity words table.kinds from.words to.words

-- what a reader takes such an entity for
abbrev pub entry_of : Layout → EntityState → EntityState → Entry
entry_of table from to = if changed_count table.kinds from.words to.words == 0 then Same else Changed

-- faults of bits and of a delta, as those of entities
abbrev pub entity_error : DeltaError → EntityError
entity_error (delta.Bits e) = Bits e
entity_error (delta.Count count) = Count count

abbrev pub bits_read : {A : Type 0} → Result A ReadError → Result A EntityError
bits_read r = fault_as Bits r

abbrev pub words_read : {A : Type 0} → Result A DeltaError → Result A EntityError
words_read r = fault_as entity_error r

-- the delta of an entity that changed
abbrev pub delta_at : List (List Bool) → Layout → List ℕ → List Bool → Result ((Entry × List ℕ) × List Bool) EntityError
delta_at words table from bits = do
  read ← words_read (words_at Entity words table.kinds from bits)
  Ok ((Changed, read.0), read.1)

-- an entity that is there: a bit that says whether it changed
abbrev pub present_at : List (List Bool) → Layout → List ℕ → List Bool → Result ((Entry × List ℕ) × List Bool) EntityError
present_at words table from bits = do
  changed ← bits_read (field_at words 1 bits)
  if changed.0 == 0 then Ok ((Same, from), changed.1) else delta_at words table from changed.1

-- what follows an entity's number, against the words that it changed from: whether it is removed, changed or the
-- same, and its words; a removed one keeps them
unfoldable pub entity_at : List (List Bool) → Layout → List ℕ → List Bool → Result ((Entry × List ℕ) × List Bool) EntityError
entity_at words table from bits = do
  removed ← bits_read (field_at words 1 bits)
  if removed.0 == 0 then present_at words table from removed.1 else Ok ((Removed, from), removed.1)

-- the answer of a reader that leaves an entity's words in a place
abbrev pub with_words : List ℕ → Result Entry EntityError → Result (Entry × List ℕ) EntityError
with_words words (Ok entry) = Ok (entry, words)
with_words words (Err e) = Err e
