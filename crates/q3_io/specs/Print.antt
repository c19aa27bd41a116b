-- Lines of text, put together from pieces.
use Rattle.std.specs.Prelude.{ℕ, ◌+◌, ◌==◌, if◌then◌else◌, List, [], ◌∷◌, ◌++◌, codes, decimal}
use Rattle.std.specs.List.{concat, flat_map}
use Rattle.hex.specs.Hex.{encode_lower}
use Rattle.q3_io.specs.Quoted.{quoted}
use Rattle.q3_io.specs.declared.print.Piece.{Piece}
use Rattle.q3_io.specs.declared.print.Piece.TheVariants.{Text, Number, Quoted}

abbrev pub piece_text : Piece → List ℕ
piece_text (Text text) = text.now
piece_text (Number number) = decimal number
piece_text (Quoted text) = quoted text.now

-- a word after its letter and index, as reports and scripts spell it
abbrev pub indexed_text : List ℕ → ℕ → ℕ → List ℕ
indexed_text letter index word = concat (letter ∷ decimal index ∷ codes ":" ∷ decimal word ∷ [])

-- the same after a space, if the word isn't 0
abbrev pub word_text : List ℕ → ℕ → ℕ → List ℕ
word_text letter index word = if word == 0 then [] else codes " " ++ indexed_text letter index word

-- the words that aren't 0, after a letter, by index from this one on
unfoldable pub words_text : List ℕ → ℕ → List ℕ → List ℕ
words_text letter index [] = []
words_text letter index (word ∷ words) = word_text letter index word ++ words_text letter (index + 1) words

-- bytes as a word: each as two hex digits with small letters, and a `-` for none
abbrev pub hex_word : List ℕ → List ℕ
hex_word [] = codes "-"
hex_word (byte ∷ bytes) = encode_lower (byte ∷ bytes)

-- a byte as two digits, and bytes so, one by one
abbrev pub digits_text : ℕ → List ℕ
digits_text byte = encode_lower (byte ∷ [])

abbrev pub hex_text : List ℕ → List ℕ
hex_text bytes = flat_map digits_text bytes
