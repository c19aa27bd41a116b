-- Changes of config strings as texts of commands: `cs INDEX "TEXT"` and a newline, or the same in pieces.
use Rattle.std.specs.Prelude.{ℕ, ◌+◌, ◌*◌, ◌/◌, ◌==◌, nat_lt, ◌||◌, if◌then◌else◌, List, [], ◌∷◌, length, take, drop, map, codes, decimal, Option, Some, None}
use Rattle.std.specs.List.{concat}
use Rattle.std.specs.Str.{bytes_eq}
use Rattle.q3_bits.specs.OptionBind.{◌>>=◌}
use Rattle.q3_text.specs.Texts.{translated}
use Rattle.q3_text.specs.Cuts.{cut_at}
use Rattle.q3_text.specs.Decimals.{number_at}

-- the four words: a whole change, and the first, a middle and the last piece of one
pub data Word : Type 0 where
  Whole : Word
  First : Word
  Middle : Word
  Last : Word

-- a text of their shape: which word, the index, and what stands between the quotes
pub record Change : Type 0 where
  pub word : Word
  pub index : ℕ
  pub text : List ℕ

-- how a word is spelled
abbrev pub spelled : Word → List ℕ
spelled Whole = codes "cs"
spelled First = codes "bcs0"
spelled Middle = codes "bcs1"
spelled Last = codes "bcs2"

-- ---- what goes out

-- a text below this length goes whole; of a longer one each piece has so many bytes but the last
abbrev pub whole_below : ℕ
whole_below = 1000

abbrev pub piece_size : ℕ
piece_size = 999

-- how many pieces a text of so many bytes goes in
unfoldable pub piece_count : ℕ → ℕ
piece_count bytes = if nat_lt bytes whole_below then 1 else (bytes + 998) / piece_size

-- the word of a piece: the last is the one after which nothing is left
unfoldable pub word_of : ℕ → ℕ → Word
word_of count k = if count == 1 then Whole else if k == 0 then First else if k + 1 == count then Last else Middle

-- the change, as a text that is kept: its word, the index, the text in quotes, and a newline
unfoldable pub change_text : Change → List ℕ
change_text change = concat (spelled change.word ∷ codes " " ∷ decimal change.index ∷ codes " \"" ∷ change.text ∷ codes "\"\n" ∷ [])

-- the piece of a text at an index k of its pieces: each byte as it is kept
unfoldable pub config_piece : ℕ → List ℕ → ℕ → Change
config_piece index text k = record {
  word = word_of (piece_count (length text)) k;
  index = index;
  text = map translated (if nat_lt (length text) whole_below then text else take piece_size (drop (piece_size * k) text));
}

-- ---- what comes in

-- the word that is spelled
unfoldable pub word_in : List ℕ → Option Word
word_in text =
    if bytes_eq text (codes "cs") then Some Whole else
    if bytes_eq text (codes "bcs0") then Some First else
    if bytes_eq text (codes "bcs1") then Some Middle else
    if bytes_eq text (codes "bcs2") then Some Last else None

-- what stands before a quote, where nothing or a newline follows it
abbrev pub closed_in : Option (List ℕ × List ℕ) → Option (List ℕ)
closed_in None = None
closed_in (Some cut) = if bytes_eq cut.1 [] || bytes_eq cut.1 (codes "\n") then Some cut.0 else None

-- what stands between the quotes, where the text begins with one, and nothing or a newline follows the next
unfoldable pub quoted_in : List ℕ → Option (List ℕ)
quoted_in [] = None
quoted_in (first ∷ text) = if first == 34 then closed_in (cut_at 34 text) else None

-- the change that a text tells, if it tells one: it is one of the four words, an index from 0 to 1023 in decimal, and a text in
-- quotes with no quote in it, with one space between them
unfoldable pub change_in : List ℕ → Option Change
change_in text = do
  first ← cut_at 32 text
  word ← word_in first.0
  second ← cut_at 32 first.1
  index ← number_at 0 1023 second.0
  body ← quoted_in second.1
  Some (record { word = word; index = index; text = body })
