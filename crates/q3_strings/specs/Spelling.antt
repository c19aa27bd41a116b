-- The spellings of a string and of a command that a reader accepts: bytes above 127 and `%` are read as `.`.
use Rattle.std.specs.Prelude.{◌≡◌, ℕ, ◌^◌, ◌<◌, ◌≤◌, Bool, List, [], ◌∷◌, ◌++◌, length, map, All}
use Rattle.q3_bits.specs.Words.{row_bits}
use Rattle.q3_text.specs.declared.text.Command.{Command}
use Rattle.q3_text.specs.Texts.{most_bytes, translated}
use Rattle.q3_strings.specs.Texts.{string_bits}

-- a string of at most so many bytes, none of which is 0: each byte of the text is one of them, translated
abbrev pub SpellsString : List (List Bool) → ℕ → List ℕ → List Bool → Type 0
SpellsString words most text bits =
    (bytes : List ℕ) × All (λ byte. (0 < byte) × (byte < 256)) bytes × (length bytes ≤ most) × (text ≡ map translated bytes)
    × (bits ≡ string_bits words bytes)

-- a command after its operation: its number, and its string
abbrev pub SpellsCommand : List (List Bool) → Command → List Bool → Type 0
SpellsCommand words command bits =
    (text : List Bool) × (command.number < 2 ^ 32) × SpellsString words most_bytes command.text text
    × (bits ≡ row_bits words ((command.number, 32) ∷ []) ++ text)
