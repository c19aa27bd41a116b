-- Info strings: keys and values that take turns, with a backslash before each; the first may be missing.
use Rattle.std.specs.Prelude.{ℕ, ◌==◌, if◌then◌else◌, List, [], ◌∷◌, Option, Some, None}
use Rattle.std.specs.List.{slice_split}
use Rattle.std.specs.Str.{bytes_eq}

-- the text without the backslash that it may begin with
abbrev pub after_backslash : List ℕ → List ℕ
after_backslash [] = []
after_backslash (byte ∷ text) = if byte == 92 then text else byte ∷ text

-- the parts of a text, cut at each backslash
abbrev pub parts_of : List ℕ → List (List ℕ)
parts_of text = slice_split (λ byte. byte == 92) text

-- the parts after a backslash, or none where a part is the last
abbrev pub parts_after : Option (List ℕ) → List (List ℕ)
parts_after None = []
parts_after (Some text) = parts_of text

-- each key with the value after it; a last key with no backslash after it has none
unfoldable pub paired : List (List ℕ) → List (List ℕ × List ℕ)
paired (key ∷ value ∷ others) = (key, value) ∷ paired others
paired others = []

-- the pairs of an info string
unfoldable pub info_pairs : List ℕ → List (List ℕ × List ℕ)
info_pairs text = paired (parts_of (after_backslash text))

-- the value of the first pair with this key
unfoldable pub value_in : List (List ℕ × List ℕ) → List ℕ → Option (List ℕ)
value_in [] key = None
value_in (pair ∷ pairs) key = if bytes_eq pair.0 key then Some pair.1 else value_in pairs key

abbrev pub info_of : List ℕ → List ℕ → Option (List ℕ)
info_of text key = value_in (info_pairs text) key
