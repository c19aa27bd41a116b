-- How a table of code words is kept.
use Rattle.std.specs.Prelude.{◌≡◌, ◌⊎◌, ℕ, ◌<◌, ◌≤◌, ◌%◌, ◌^◌, Bool, List, length, map, All, slice_index_or}
use Rattle.q3_bits.specs.declared.code.Word.{Word}
use Rattle.q3_bits.specs.declared.code.Entry.{Entry}
use Rattle.q3_bits.specs.declared.code.Code.TheInside.{Inside}
use Rattle.q3_bits.specs.Bits.{low_bits}
use Rattle.q3_bits.specs.Words.{IsCode}

-- the bits of a word
abbrev pub bits_of_word : Word → List Bool
bits_of_word word = low_bits word.length word.bits

abbrev pub words_of : List Word → List (List Bool)
words_of words = map bits_of_word words

abbrev pub no_word : Word
no_word = record { bits = 0; length = 0 }

-- the length in an entry that names no word: more bits than are gathered
abbrev pub unindexed : ℕ
unindexed = 64

abbrev pub no_entry : Entry
no_entry = record { byte = 0; length = unindexed }

-- a word has at most 24 bits, and its number has no others
pub record IsWord (word : Word) : Type 0 where
  pub short : word.length ≤ 24
  pub fits : word.bits < 2 ^ word.length

-- the word of the entry's byte begins these bits, given as the number that they spell
pub record Leads (words : List Word) (entry : Entry) (bits : ℕ) : Type 0 where
  pub byte : entry.byte < length words
  pub length : (slice_index_or words entry.byte no_word).length ≡ entry.length
  pub begins : bits % 2 ^ entry.length ≡ (slice_index_or words entry.byte no_word).bits

-- the entry for 12 bits names no word, or one of at most 12 bits that begins them
abbrev pub IsEntry : List Word → ℕ → Entry → Type 0
IsEntry words bits entry = (entry.length ≡ unindexed) ⊎ ((entry.length ≤ 12) × Leads words entry bits)

-- an index has an entry for each 12 bits
pub record IsIndex (words : List Word) (entries : List Entry) : Type 0 where
  pub count : length entries ≡ 4096
  pub each : (k : ℕ) → k < 4096 → IsEntry words k (slice_index_or entries k no_entry)

-- a word for each byte, of which none begins another
pub record IsTable (code : Inside) : Type 0 where
  pub each : All IsWord code.words.items
  pub is_code : IsCode (words_of code.words.items)
  pub index : IsIndex code.words.items code.index.items
