-- The delta of a state's words over a table: how many fields follow, and each of them. Entities and players are
-- written so, and differ in the text of a field.
use Rattle.std.specs.Prelude.{ℕ, ◌+◌, ◌==◌, ◌&&◌, Bool, if◌then◌else◌, List, [], ◌∷◌, ◌++◌, length, take, nat_lt, Result, Ok, Err}
use Rattle.q3_bits.specs.ResultBind.{◌>>=◌, fault_as}
use Rattle.q3_bits.specs.Words.{field_bits, field_at}
use Rattle.q3_bits.specs.declared.reader.ReadError.{ReadError}
use Rattle.q3_fields.specs.declared.kind.Kind.{Kind}
use Rattle.q3_fields.specs.declared.delta.StateKind.{StateKind}
use Rattle.q3_fields.specs.declared.delta.StateKind.TheVariants.{Entity, Player}
use Rattle.q3_fields.specs.declared.delta.DeltaError.{DeltaError}
use Rattle.q3_fields.specs.declared.delta.DeltaError.TheVariants.{Bits, Count}
use Rattle.q3_fields.specs.Texts.{entity_field, player_field, entity_field_at, player_field_at}

-- one more than the index of the last word that differs, or 0: the least number from which on all words agree
unfoldable pub last_changed : List ℕ → List ℕ → ℕ
last_changed (x ∷ from) (y ∷ to) = if (last_changed from to == 0) && (x == y) then 0 else last_changed from to + 1
last_changed from to = 0

-- the index of the last field of the table that changed, plus one
abbrev pub changed_count : List Kind → List ℕ → List ℕ → ℕ
changed_count table from to = last_changed (take (length table) from) (take (length table) to)

-- the text of a changed field of an entity or of a player
abbrev pub changed_bits : StateKind → List (List Bool) → Kind → ℕ → List Bool
changed_bits Entity words kind word = entity_field words kind word
changed_bits Player words kind word = player_field words kind word

-- a field: bit 0 where it is as it was, else bit 1 and its text
abbrev pub marked_field_bits : StateKind → List (List Bool) → Kind → ℕ → ℕ → List Bool
marked_field_bits state words kind from to =
    if from == to then field_bits words 1 0 else field_bits words 1 1 ++ changed_bits state words kind to

-- the fields of these kinds
unfoldable pub fields_bits : StateKind → List (List Bool) → List Kind → List ℕ → List ℕ → List Bool
fields_bits state words (kind ∷ kinds) (x ∷ from) (y ∷ to) = marked_field_bits state words kind x y ++ fields_bits state words kinds from to
fields_bits state words kinds from to = []

-- a count, and the first fields of the table, so many
abbrev pub counted_bits : StateKind → List (List Bool) → List Kind → ℕ → List ℕ → List ℕ → List Bool
counted_bits state words table count from to = field_bits words 8 count ++ fields_bits state words (take count table) from to

-- the delta: how many fields follow, and these
unfoldable pub words_delta : StateKind → List (List Bool) → List Kind → List ℕ → List ℕ → List Bool
words_delta state words table from to = counted_bits state words table (changed_count table from to) from to

-- a changed field that is read
abbrev pub changed_at : StateKind → List (List Bool) → Kind → List Bool → Result (ℕ × List Bool) ReadError
changed_at Entity words kind bits = entity_field_at words kind bits
changed_at Player words kind bits = player_field_at words kind bits

-- a field that is read: a mark, and after a mark of change its text
unfoldable pub marked_field_at : StateKind → List (List Bool) → Kind → ℕ → List Bool → Result (ℕ × List Bool) ReadError
marked_field_at state words kind from bits = do
  mark ← field_at words 1 bits
  if mark.0 == 0 then Ok (from, mark.1) else changed_at state words kind mark.1

-- the words after the fields of these kinds were read
unfoldable pub fields_at : StateKind → List (List Bool) → List Kind → List ℕ → List Bool → Result (List ℕ × List Bool) ReadError
fields_at state words (kind ∷ kinds) (x ∷ from) bits = do
  first ← marked_field_at state words kind x bits
  others ← fields_at state words kinds from first.1
  Ok (first.0 ∷ others.0, others.1)
fields_at state words kinds from bits = Ok (from, bits)

-- a fault of bits
abbrev pub bits_read : {A : Type 0} → Result A ReadError → Result A DeltaError
bits_read r = fault_as Bits r

-- the words that a delta spells against others, and what follows it, or the first fault: a count above the table's
-- is refused before its fields are read
unfoldable pub words_at : StateKind → List (List Bool) → List Kind → List ℕ → List Bool → Result (List ℕ × List Bool) DeltaError
words_at state words table from bits = do
  count ← bits_read (field_at words 8 bits)
  if nat_lt (length table) count.0 then Err (Count count.0) else bits_read (fields_at state words (take count.0 table) from count.1)
