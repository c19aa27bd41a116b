-- The player delta: the one text that is written, and what a reader answers.
use Rattle.std.specs.Prelude.{ℕ, ◌/◌, ◌%◌, ◌==◌, Bool, if◌then◌else◌, List, [], ◌∷◌, ◌++◌, length, ℤ, Result, Ok}
use Rattle.std.specs.List.{flat_map, list_all}
use Rattle.q3_bits.specs.ResultBind.{◌>>=◌}
use Rattle.q3_bits.specs.Words.{field_bits, field_at}
use Rattle.q3_bits.specs.declared.reader.ReadError.{ReadError}
use Rattle.q3_fields.specs.declared.kind.Kind.{Kind}
use Rattle.q3_fields.specs.declared.kind.Kind.TheVariants.{Signed}
use Rattle.q3_fields.specs.declared.delta.StateKind.TheVariants.{Player}
use Rattle.q3_fields.specs.declared.delta.DeltaError.{DeltaError}
use Rattle.q3_fields.specs.Texts.{player_field, player_field_at}
use Rattle.q3_fields.specs.Deltas.{words_delta, bits_read, words_at}
use Rattle.q3_player.specs.declared.state.PlayerState.{PlayerState}
use Rattle.q3_player.specs.State.{patterns_of, shorts_of, array_kinds, arrays_of, with_arrays}
use Rattle.q3_fields.specs.Places.{Change}
use Rattle.q3_player.specs.Arrays.{mask_of, player_changes}

-- whether nothing changed
abbrev pub is_empty : List Change → Bool
is_empty changed = length changed == 0

-- the values of the places that changed
unfoldable pub values_bits : List (List Bool) → Kind → List Change → List Bool
values_bits words kind changed = flat_map (λ change. player_field words kind change.1) changed

-- an array: bit 0 where no place changed, else bit 1, the mask and the values
unfoldable pub array_bits : List (List Bool) → Kind → List Change → List Bool
array_bits words kind changed =
    if is_empty changed then field_bits words 1 0
    else field_bits words 1 1 ++ field_bits words 16 (mask_of changed) ++ values_bits words kind changed

-- the arrays: bit 0 where none changed, else bit 1 and each of them
unfoldable pub arrays_bits : List (List Bool) → List (Kind × List Change) → List Bool
arrays_bits words arrays =
    if list_all (λ array. is_empty array.1) arrays then field_bits words 1 0
    else field_bits words 1 1 ++ flat_map (λ array. array_bits words array.0 array.1) arrays

-- the words, and the arrays
unfoldable pub player_delta : List (List Bool) → List Kind → PlayerState → PlayerState → List Bool
player_delta words table from to =
    words_delta Player words table from.words to.words ++ arrays_bits words (player_changes from to)

-- a place that is read: its value where the mask's next bit is 1
unfoldable pub value_at : List (List Bool) → Kind → ℕ → ℕ → List Bool → Result (ℕ × List Bool) ReadError
value_at words kind mask from bits = if mask % 2 == 1 then player_field_at words kind bits else Ok (from, bits)

-- the values after a mask
unfoldable pub values_at : List (List Bool) → Kind → ℕ → List ℕ → List Bool → Result (List ℕ × List Bool) ReadError
values_at words kind mask (x ∷ from) bits = do
  first ← value_at words kind mask x bits
  others ← values_at words kind (mask / 2) from first.1
  Ok (first.0 ∷ others.0, others.1)
values_at words kind mask [] bits = Ok ([], bits)

-- an array that is read: a mark, and after a mark of change the mask and the values
unfoldable pub array_at : List (List Bool) → Kind → List ℕ → List Bool → Result (List ℕ × List Bool) ReadError
array_at words kind from bits = do
  mark ← field_at words 1 bits
  mask ← if mark.0 == 0 then Ok (0, mark.1) else field_at words 16 mark.1
  values_at words kind mask.0 from mask.1

-- an array of signed values that is read
unfoldable pub shorts_at : List (List Bool) → List ℤ → List Bool → Result (List ℤ × List Bool) ReadError
shorts_at words from bits = do
  read ← array_at words (Signed 16) (patterns_of from) bits
  Ok (shorts_of read.0, read.1)

-- the arrays of these kinds that are read, over others
unfoldable pub arrays_at : List (List Bool) → List Kind → List (List ℕ) → List Bool → Result (List (List ℕ) × List Bool) ReadError
arrays_at words (kind ∷ kinds) (x ∷ from) bits = do
  first ← array_at words kind x bits
  others ← arrays_at words kinds from first.1
  Ok (first.0 ∷ others.0, others.1)
arrays_at words kinds from bits = Ok (from, bits)

-- a state with the arrays that are read over its own
unfoldable pub all_arrays_at : List (List Bool) → PlayerState → List Bool → Result (PlayerState × List Bool) ReadError
all_arrays_at words from bits = do
  arrays ← arrays_at words array_kinds (arrays_of from) bits
  Ok (with_arrays from arrays.0, arrays.1)

-- a mark, and after a mark of change the arrays
unfoldable pub marked_arrays_at : List (List Bool) → PlayerState → List Bool → Result (PlayerState × List Bool) ReadError
marked_arrays_at words from bits = do
  mark ← field_at words 1 bits
  if mark.0 == 0 then Ok (from, mark.1) else all_arrays_at words from mark.1

-- the state that the bits spell against another, and what follows it, or the first fault
unfoldable pub player_at : List (List Bool) → List Kind → PlayerState → List Bool → Result (PlayerState × List Bool) DeltaError
player_at words table from bits = do
  fields ← words_at Player words table from.words bits
  bits_read (marked_arrays_at words (record from { words = fields.0 }) fields.1)
