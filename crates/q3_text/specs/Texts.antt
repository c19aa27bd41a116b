-- Texts: the strings of messages. Bytes above 127 and `%` become `.`, and no byte is 0.
use Rattle.std.specs.Prelude.{◌≢◌, ℕ, ◌<◌, ◌≤◌, ◌==◌, ◌||◌, nat_lt, if◌then◌else◌, List, length, map, All, Option, Some, None, Result, Ok, Err}
use Rattle.std.specs.List.{position}
use Rattle.q3_text.specs.declared.text.TextError.{TextError}
use Rattle.q3_text.specs.declared.text.TextError.TheVariants.{Long, Zero}

-- the most bytes of a text
abbrev pub most_bytes : ℕ
most_bytes = 1023

-- a byte as a text keeps it
abbrev pub translated : ℕ → ℕ
translated byte = if nat_lt 127 byte || byte == 37 then 46 else byte

-- a byte that a text may hold
pub record IsTextByte (byte : ℕ) : Type 0 where
  pub some : 0 < byte
  pub seven_bits : byte < 128
  pub no_percent : byte ≢ 37

-- the bytes of a text
pub record IsText (text : List ℕ) : Type 0 where
  pub short : length text ≤ most_bytes
  pub each : All IsTextByte text

-- what is wrong with bytes that have this first 0
abbrev pub zero_fault : Option ℕ → Option TextError
zero_fault None = None
zero_fault (Some place) = Some (Zero place)

-- the first thing that is wrong: the length comes before the first byte 0
unfoldable pub text_fault : List ℕ → Option TextError
text_fault bytes = if nat_lt most_bytes (length bytes) then Some Long else zero_fault (position (λ byte. byte == 0) bytes)

-- the text of bytes, or what is wrong with them
abbrev pub text_or : List ℕ → Option TextError → Result (List ℕ) TextError
text_or bytes None = Ok (map translated bytes)
text_or bytes (Some fault) = Err fault

unfoldable pub text_of : List ℕ → Result (List ℕ) TextError
text_of bytes = text_or bytes (text_fault bytes)
