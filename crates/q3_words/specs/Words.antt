-- The words of a line, and what follows a prefix.
use Rattle.std.specs.Prelude.{ℕ, ◌==◌, List, [], ◌∷◌, take, drop, length, Option, Some, None}
use Rattle.std.specs.List.{slice_split, join_with_byte}
use Rattle.std.specs.Bool.{then_some}
use Rattle.std.specs.Str.{bytes_eq}

-- the words of a line, with one space between them
abbrev pub words_of : List ℕ → List (List ℕ)
words_of line = slice_split (λ byte. byte == 32) line

-- the words in what is left of a line: none, or those after a space
abbrev pub words_left : List ℕ → List (List ℕ)
words_left [] = []
words_left (space ∷ text) = words_of text

-- the next word and those after it
abbrev pub next_of : List (List ℕ) → Option (List ℕ × List (List ℕ))
next_of [] = None
next_of (word ∷ words) = Some (word, words)

-- the next three words and those after them
abbrev pub three_of : List (List ℕ) → Option (List ℕ × List ℕ × List ℕ × List (List ℕ))
three_of (first ∷ second ∷ third ∷ words) = Some (first, second, third, words)
three_of words = None

-- the word, if it is the only one
abbrev pub only_of : List (List ℕ) → Option (List ℕ)
only_of [] = None
only_of (word ∷ []) = Some word
only_of (word ∷ next ∷ words) = None

-- words as the one text that they were cut from, if there are any
abbrev pub text_from : List (List ℕ) → Option (List ℕ)
text_from [] = None
text_from (word ∷ words) = Some (join_with_byte 32 (word ∷ words))

-- what follows a prefix
unfoldable pub after_prefix : List ℕ → List ℕ → Option (List ℕ)
after_prefix prefix text = then_some (bytes_eq (take (length prefix) text) prefix) (drop (length prefix) text)
