-- What a search for a word answers.
use Rattle.std.specs.Prelude.{ℕ, Bool, List, drop, Option, Some, None}

-- a byte and the length of its word, as the byte and the bits after the word
abbrev pub found_in : List Bool → Option (ℕ × ℕ) → Option (ℕ × List Bool)
found_in left (Some found) = Some (found.0, drop found.1 left)
found_in left None = None
