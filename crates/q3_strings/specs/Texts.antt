-- The texts of bytes, of strings and of commands.
use Rattle.std.specs.Prelude.{ℕ, Bool, List, [], ◌∷◌, ◌++◌, map}
use Rattle.q3_bits.specs.Words.{row_bits}
use Rattle.q3_text.specs.declared.text.Command.{Command}

-- bytes, one after the other
abbrev pub bytes_row : List (List Bool) → List ℕ → List Bool
bytes_row words bytes = row_bits words (map (λ byte. (byte, 8)) bytes)

-- a string: its bytes and a 0
abbrev pub string_bits : List (List Bool) → List ℕ → List Bool
string_bits words text = bytes_row words (text ++ 0 ∷ [])

-- a command after its operation: its number, and its string
abbrev pub command_bits : List (List Bool) → Command → List Bool
command_bits words command = row_bits words ((command.number, 32) ∷ []) ++ string_bits words command.text
