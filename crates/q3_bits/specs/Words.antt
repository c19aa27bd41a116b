-- Code words: each byte has a word of bits, and a field is written as raw bits and words.
use Rattle.std.specs.Prelude.{◌≡◌, ℕ, zero, suc, ◌+◌, ◌*◌, ◌/◌, ◌%◌, ◌^◌, ◌<◌, if◌then◌else◌, Bool, true, false, List, [], ◌∷◌, ◌++◌, length, map, take, drop, slice_index_or, Option, Some, None, nat_lt, Result, Ok, Err}
use Rattle.std.specs.List.{range_with_len, list_any, flat_map}
use Rattle.std.specs.Option.{is_some, ok_or, option_or, option_map}
use Rattle.q3_bits.specs.ResultBind.{◌>>=◌}
use Rattle.q3_bits.specs.declared.reader.ReadError.{ReadError}
use Rattle.q3_bits.specs.declared.reader.ReadError.TheVariants.{End, NoWord}
use Rattle.q3_bits.specs.Bits.{low_bits, number_of}

-- the word of a byte
abbrev pub word_of : List (List Bool) → ℕ → List Bool
word_of words byte = slice_index_or words byte []

-- there is a word for each byte, and none begins another
pub record IsCode (words : List (List Bool)) : Type 0 where
  pub count : length words ≡ 256
  pub prefix_free : (i j : ℕ) (rest : List Bool) → i < 256 → j < 256 → word_of words i ++ rest ≡ word_of words j → i ≡ j

-- the plain code: the word of a byte is its eight bits
unfoldable pub plain_words : List (List Bool)
plain_words = map (low_bits 8) (range_with_len 0 256)

-- the words of a number's bytes, so many, least byte first
unfoldable pub bytes_bits : List (List Bool) → ℕ → ℕ → List Bool
bytes_bits words zero value = []
bytes_bits words (suc count) value = word_of words (value % 256) ++ bytes_bits words count (value / 256)

-- a field of so many bits: those over whole bytes go first, raw, and then the bytes as their words
unfoldable pub field_bits : List (List Bool) → ℕ → ℕ → List Bool
field_bits words width value = low_bits (width % 8) value ++ bytes_bits words (width / 8) (value / 2 ^ (width % 8))

-- a row of fields, each a value and its width, one after the other
unfoldable pub row_bits : List (List Bool) → List (ℕ × ℕ) → List Bool
row_bits words fields = flat_map (λ field. field_bits words field.1 field.0) fields

-- so many raw bits from the front, as a number, and what follows them
unfoldable pub raw_at : ℕ → List Bool → Result (ℕ × List Bool) ReadError
raw_at count bits = if nat_lt (length bits) count then Err End else Ok (number_of (take count bits), drop count bits)

-- what follows a word that begins the bits
unfoldable pub bits_after : List Bool → List Bool → Option (List Bool)
bits_after [] bits = Some bits
bits_after (w ∷ word) [] = None
bits_after (true ∷ word) (true ∷ bits) = bits_after word bits
bits_after (false ∷ word) (false ∷ bits) = bits_after word bits
bits_after (w ∷ word) (b ∷ bits) = None

-- the first of these bytes whose word begins the bits, counted from `byte`, and what follows the word
unfoldable pub byte_from : ℕ → List (List Bool) → List Bool → Option (ℕ × List Bool)
byte_from byte [] bits = None
byte_from byte (word ∷ words) bits = option_or (option_map (λ rest. (byte, rest)) (bits_after word bits)) (byte_from (byte + 1) words bits)

-- whether the bits are a front of one of the words
unfoldable pub begins_word : List (List Bool) → List Bool → Bool
begins_word words bits = list_any (λ word. is_some (bits_after bits word)) words

-- the byte whose word begins the bits; where none does, they end in a word or begin none
unfoldable pub byte_at : List (List Bool) → List Bool → Result (ℕ × List Bool) ReadError
byte_at words bits = ok_or (byte_from 0 words bits) (if begins_word words bits then End else NoWord)

-- so many bytes by their words, least byte first
unfoldable pub bytes_at : List (List Bool) → ℕ → List Bool → Result (ℕ × List Bool) ReadError
bytes_at words zero bits = Ok (0, bits)
bytes_at words (suc count) bits = do
  first ← byte_at words bits
  others ← bytes_at words count first.1
  Ok (first.0 + 256 * others.0, others.1)

-- the value of a field of so many bits at the front, and what follows it; or why there is none
unfoldable pub field_at : List (List Bool) → ℕ → List Bool → Result (ℕ × List Bool) ReadError
field_at words width bits = do
  raw ← raw_at (width % 8) bits
  bytes ← bytes_at words (width / 8) raw.1
  Ok (raw.0 + 2 ^ (width % 8) * bytes.0, bytes.1)

-- how many marks of 0 stand at the front, up to a limit, and what follows them and the mark of 1 that ends them
unfoldable pub run_at : ℕ → List Bool → Result (ℕ × List Bool) ReadError
run_at zero bits = Ok (0, bits)
run_at (suc limit) [] = Err End
run_at (suc limit) (true ∷ bits) = Ok (0, bits)
run_at (suc limit) (false ∷ bits) = do
  others ← run_at limit bits
  Ok (others.0 + 1, others.1)

-- the bits are the front of a field's text that goes on
abbrev pub IsCutShort : List (List Bool) → ℕ → List Bool → Type 0
IsCutShort words width bits = (value : ℕ) × (more : List Bool) × (bits ++ more ≡ field_bits words width value)
