-- A code whose words are given as text: a letter for each bit, first bit first.
use Rattle.std.specs.Prelude.{ℕ, ◌+◌, ◌==◌, nat_lt, ◌||◌, ◌&&◌, not, if◌then◌else◌, Bool, List, [], ◌∷◌, length, map, Option, Some, None}
use Rattle.std.specs.Borrow.{Bor}
use Rattle.std.specs.List.{range_with_len, flat_map, list_all, find}
use Rattle.std.specs.Option.{is_some, option_or, option_map}
use Rattle.q3_bits.specs.declared.words.CodeError.{CodeError}
use Rattle.q3_bits.specs.declared.words.CodeError.TheVariants.{Count, Empty, Long, NotBits, Clash}
use Rattle.q3_bits.specs.Words.{word_of, bits_after}

-- the texts that are lent
abbrev pub texts_of : List (Bor (List ℕ)) → List (List ℕ)
texts_of texts = map (λ text. text.now) texts

-- a letter that is a bit: `0` or `1`
abbrev pub is_bit : ℕ → Bool
is_bit letter = letter == 48 || letter == 49

-- the bits that a text spells
unfoldable pub bits_of_text : List ℕ → List Bool
bits_of_text text = map (λ letter. letter == 49) text

-- what is wrong with the text of word i
unfoldable pub word_fault : ℕ → List ℕ → Option CodeError
word_fault i text =
    if length text == 0 then Some (Empty i) else
    if nat_lt 24 (length text) then Some (Long i) else
    if list_all is_bit text then None else Some (NotBits i)

-- what is wrong with the first word at fault, counted from i
unfoldable pub words_fault : ℕ → List (List ℕ) → Option CodeError
words_fault i [] = None
words_fault i (text ∷ texts) = option_or (word_fault i text) (words_fault (i + 1) texts)

-- every pair of so many places, in order
unfoldable pub pairs : ℕ → List (ℕ × ℕ)
pairs count = flat_map (λ i. map (λ j. (i, j)) (range_with_len 0 count)) (range_with_len 0 count)

-- whether the one word begins the other, at another place
unfoldable pub clashes : List (List Bool) → ℕ × ℕ → Bool
clashes words pair = not (pair.0 == pair.1) && is_some (bits_after (word_of words pair.0) (word_of words pair.1))

-- the first pair of places whose words clash
unfoldable pub first_clash : List (List Bool) → Option (ℕ × ℕ)
first_clash words = find (clashes words) (pairs (length words))

abbrev pub clash_at : ℕ × ℕ → CodeError
clash_at pair = Clash pair.0 pair.1

-- the first rule that the texts break: their count, then each text by itself, then what clashes
unfoldable pub code_fault : List (List ℕ) → Option CodeError
code_fault texts =
    if length texts == 256
    then option_or (words_fault 0 texts) (option_map clash_at (first_clash (map bits_of_text texts)))
    else Some Count
