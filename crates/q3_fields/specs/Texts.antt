-- The text of a changed field, and what a reader answers.
use Rattle.std.specs.Prelude.{ℕ, ◌==◌, if◌then◌else◌, Bool, List, ◌++◌, ℤ, pos, ◌-ℤ◌, ◌+ℤ◌, nat_abs, Option, Some, None, Result, Ok}
use Rattle.q3_bits.specs.ResultBind.{◌>>=◌}
use Rattle.q3_bits.specs.Words.{field_bits, field_at}
use Rattle.q3_bits.specs.declared.reader.ReadError.{ReadError}
use Rattle.q3_fields.specs.declared.kind.Kind.{Kind}
use Rattle.q3_fields.specs.declared.kind.Kind.TheVariants.{Float, Unsigned, Signed}
use Rattle.q3_fields.specs.Kinds.{norm}
use Rattle.q3_fields.specs.Floats.{pattern, small_float}

-- a whole number from -4096 to 4095 in the 13 bits that carry it, and back
abbrev pub biased : ℤ → ℕ
biased k = nat_abs (k +ℤ pos 4096)

abbrev pub unbiased : ℕ → ℤ
unbiased value = pos value -ℤ pos 4096

-- a float: bit 0 and 13 bits where it is small, else bit 1 and its 32 bits
abbrev pub float_bits : List (List Bool) → ℕ → Option ℤ → List Bool
float_bits words word (Some k) = field_bits words 1 0 ++ field_bits words 13 (biased k)
float_bits words word None = field_bits words 1 1 ++ field_bits words 32 word

-- a changed field of a player delta: a float, or the bits of an integer
unfoldable pub player_field : List (List Bool) → Kind → ℕ → List Bool
player_field words Float word = float_bits words word (small_float word)
player_field words (Unsigned width) word = field_bits words width word
player_field words (Signed width) word = field_bits words width word

-- a changed field of an entity delta: bit 0 for zero, else bit 1 and the field as in a player delta
unfoldable pub entity_field : List (List Bool) → Kind → ℕ → List Bool
entity_field words kind word =
    if norm kind word == 0 then field_bits words 1 0 else field_bits words 1 1 ++ player_field words kind word

-- a float that is read, in normal form: 13 bits after bit 0, and 32 after bit 1
unfoldable pub float_at : List (List Bool) → List Bool → Result (ℕ × List Bool) ReadError
float_at words bits = do
  full ← field_at words 1 bits
  value ← field_at words (if full.0 == 0 then 13 else 32) full.1
  Ok (if full.0 == 0 then pattern (unbiased value.0) else norm Float value.0, value.1)

-- an integer that is read, in normal form
abbrev pub integer_at : List (List Bool) → Kind → ℕ → List Bool → Result (ℕ × List Bool) ReadError
integer_at words kind width bits = do
  value ← field_at words width bits
  Ok (norm kind value.0, value.1)

-- the field of a player delta at the front of the bits, in normal form, and what follows it
unfoldable pub player_field_at : List (List Bool) → Kind → List Bool → Result (ℕ × List Bool) ReadError
player_field_at words Float bits = float_at words bits
player_field_at words (Unsigned width) bits = integer_at words (Unsigned width) width bits
player_field_at words (Signed width) bits = integer_at words (Signed width) width bits

-- the same of an entity delta
unfoldable pub entity_field_at : List (List Bool) → Kind → List Bool → Result (ℕ × List Bool) ReadError
entity_field_at words kind bits = do
  mark ← field_at words 1 bits
  if mark.0 == 0 then Ok (0, mark.1) else player_field_at words kind mark.1
