-- What a reader of bytes, of a string and of a command answers: its value, or the first fault in reading order.
use Rattle.std.specs.Prelude.{ℕ, zero, suc, ◌==◌, Bool, if◌then◌else◌, List, [], ◌∷◌, Result, Ok, Err}
use Rattle.q3_bits.specs.ResultBind.{◌>>=◌, fault_as}
use Rattle.q3_bits.specs.Words.{field_at}
use Rattle.q3_bits.specs.declared.reader.ReadError.{ReadError}
use Rattle.q3_text.specs.declared.text.Command.{Command}
use Rattle.q3_text.specs.Texts.{most_bytes, translated}
use Rattle.q3_strings.specs.declared.error.StringError.{StringError}
use Rattle.q3_strings.specs.declared.error.StringError.TheVariants.{Bits, Long}

-- so many bytes
unfoldable pub string_bytes_at : List (List Bool) → ℕ → List Bool → Result (List ℕ × List Bool) ReadError
string_bytes_at words zero bits = Ok ([], bits)
string_bytes_at words (suc count) bits = do
  byte ← field_at words 8 bits
  others ← string_bytes_at words count byte.1
  Ok (byte.0 ∷ others.0, others.1)

-- a string: bytes, each translated, up to a 0 that comes after at most so many
unfoldable pub bounded_string_at : List (List Bool) → ℕ → List Bool → Result (List ℕ × List Bool) StringError
bounded_string_at words zero bits = do
  byte ← fault_as Bits (field_at words 8 bits)
  if byte.0 == 0 then Ok ([], byte.1) else Err Long
bounded_string_at words (suc most) bits = do
  byte ← fault_as Bits (field_at words 8 bits)
  if byte.0 == 0 then Ok ([], byte.1) else (do
    others ← bounded_string_at words most byte.1
    Ok (translated byte.0 ∷ others.0, others.1))

-- a command after its operation
unfoldable pub command_at : List (List Bool) → List Bool → Result (Command × List Bool) StringError
command_at words bits = do
  number ← fault_as Bits (field_at words 32 bits)
  text ← bounded_string_at words most_bytes number.1
  Ok (record { number = number.0; text = text.0 }, text.1)
