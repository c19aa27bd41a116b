-- Laws of small floats, of the normal form, of field texts and of the delta of words.
use Rattle.std.specs.Prelude.{◌≡◌, ◌≢◌, ℕ, ◌^◌, ◌<◌, ◌≤◌, Bool, List, ◌++◌, length, drop, replicate, Ok, Some, ℤ, pos, neg_ℤ, ◌≤ℤ◌}
use Rattle.q3_bits.specs.ResultBind.{left_of}
use Rattle.q3_bits.specs.Words.{IsCode}
use Rattle.q3_fields.specs.declared.kind.Kind.{Kind}
use Rattle.q3_fields.specs.declared.delta.StateKind.{StateKind}
use Rattle.q3_fields.specs.Kinds.{IsKind, AreKinds, norm}
use Rattle.q3_fields.specs.States.{AreWords, normal_words}
use Rattle.q3_fields.specs.Deltas.{last_changed, changed_count, words_delta, words_at}
use Rattle.q3_fields.specs.Floats.{pattern, small_float}
use Rattle.q3_fields.specs.Texts.{player_field, entity_field, player_field_at, entity_field_at}
use Rattle.q3_fields.specs.Spelling.{SpellsPlayerField, SpellsEntityField, SpellsWords}

-- a whole number whose pattern is a small float
pub record IsSmall (k : ℤ) : Type 0 where
  pub least : neg_ℤ (pos 4096) ≤ℤ k
  pub most : k ≤ℤ pos 4095

-- the number of a pattern, and the pattern of a number: each is found again
abbrev pub SmallOfPattern : Type 0
SmallOfPattern = (k : ℤ) → IsSmall k → small_float (pattern k) ≡ Some k

abbrev pub PatternOfSmall : Type 0
PatternOfSmall = (word : ℕ) (k : ℤ) → word ≢ 2 ^ 31 → small_float word ≡ Some k → IsSmall k × (pattern k ≡ word)

-- the normal form of a word of 32 bits is one, and is its own normal form
abbrev pub NormIsNormal : Type 0
NormIsNormal = (kind : Kind) (word : ℕ) → IsKind kind → word < 2 ^ 32 → (norm kind word < 2 ^ 32) × (norm kind (norm kind word) ≡ norm kind word)

-- the text of a word is that of its normal form
abbrev pub NormHasItsText : Type 0
NormHasItsText = (words : List (List Bool)) (kind : Kind) (word : ℕ) → IsKind kind
    → (player_field words kind (norm kind word) ≡ player_field words kind word) × (entity_field words kind (norm kind word) ≡ entity_field words kind word)

-- what is written spells the normal form
abbrev pub PlayerFieldIsSpelled : Type 0
PlayerFieldIsSpelled = (words : List (List Bool)) (kind : Kind) (word : ℕ) → IsKind kind → word < 2 ^ 32
    → SpellsPlayerField words kind (norm kind word) (player_field words kind word)

abbrev pub EntityFieldIsSpelled : Type 0
EntityFieldIsSpelled = (words : List (List Bool)) (kind : Kind) (word : ℕ) → IsKind kind → word < 2 ^ 32
    → SpellsEntityField words kind (norm kind word) (entity_field words kind word)

-- what is read was spelled so, and is a normal word of 32 bits
abbrev pub PlayerReadIsSpelled : Type 0
PlayerReadIsSpelled = (words : List (List Bool)) (kind : Kind) (word : ℕ) (bits rest : List Bool) → IsCode words → IsKind kind
    → player_field_at words kind bits ≡ Ok (word, rest)
    → (word < 2 ^ 32) × (norm kind word ≡ word) × (text : List Bool) × (bits ≡ text ++ rest) × SpellsPlayerField words kind word text

abbrev pub EntityReadIsSpelled : Type 0
EntityReadIsSpelled = (words : List (List Bool)) (kind : Kind) (word : ℕ) (bits rest : List Bool) → IsCode words → IsKind kind
    → entity_field_at words kind bits ≡ Ok (word, rest)
    → (word < 2 ^ 32) × (norm kind word ≡ word) × (text : List Bool) × (bits ≡ text ++ rest) × SpellsEntityField words kind word text

-- what is spelled so is read, with whatever follows it
abbrev pub PlayerSpelledIsRead : Type 0
PlayerSpelledIsRead = (words : List (List Bool)) (kind : Kind) (word : ℕ) (text rest : List Bool) → IsCode words → IsKind kind
    → SpellsPlayerField words kind word text → player_field_at words kind (text ++ rest) ≡ Ok (word, rest)

abbrev pub EntitySpelledIsRead : Type 0
EntitySpelledIsRead = (words : List (List Bool)) (kind : Kind) (word : ℕ) (text rest : List Bool) → IsCode words → IsKind kind
    → SpellsEntityField words kind word text → entity_field_at words kind (text ++ rest) ≡ Ok (word, rest)

-- what is written is read back as the normal form, with whatever follows it
abbrev pub PlayerWrittenIsRead : Type 0
PlayerWrittenIsRead = (words : List (List Bool)) (kind : Kind) (word : ℕ) (rest : List Bool) → IsCode words → IsKind kind → word < 2 ^ 32
    → player_field_at words kind (player_field words kind word ++ rest) ≡ Ok (norm kind word, rest)

abbrev pub EntityWrittenIsRead : Type 0
EntityWrittenIsRead = (words : List (List Bool)) (kind : Kind) (word : ℕ) (rest : List Bool) → IsCode words → IsKind kind → word < 2 ^ 32
    → entity_field_at words kind (entity_field words kind word ++ rest) ≡ Ok (norm kind word, rest)

-- the normal form of words is words, in normal form
abbrev pub NormalWordsAreNormal : Type 0
NormalWordsAreNormal = (table : List Kind) (words : List ℕ) → AreKinds table → AreWords 64 words
    → AreWords 64 (normal_words table words) × (normal_words table (normal_words table words) ≡ normal_words table words)

-- words that are all 0 are words, in normal form
abbrev pub ZerosAreNormal : Type 0
ZerosAreNormal = (table : List Kind) → AreKinds table → AreWords 64 (replicate 64 0) × (normal_words table (replicate 64 0) ≡ replicate 64 0)

-- the count is the least number from which on the words agree
abbrev pub LastChangedIsLeast : Type 0
LastChangedIsLeast = (from to : List ℕ) → length from ≡ length to
    → (drop (last_changed from to) from ≡ drop (last_changed from to) to)
    × ((n : ℕ) → drop n from ≡ drop n to → last_changed from to ≤ n)

-- what is written against normal words spells the normal form of the others, and its count is in the table
abbrev pub WordsAreSpelled : Type 0
WordsAreSpelled = (state : StateKind) (words : List (List Bool)) (table : List Kind) (from to : List ℕ) → IsCode words → AreKinds table
    → AreWords 64 from → normal_words table from ≡ from → AreWords 64 to
    → SpellsWords state words table from (normal_words table to) (words_delta state words table from to)

-- where no field changed, the normal form is what was there
abbrev pub UnchangedIsNormal : Type 0
UnchangedIsNormal = (table : List Kind) (from to : List ℕ) → AreKinds table → AreWords 64 from → normal_words table from ≡ from → AreWords 64 to
    → changed_count table from to ≡ 0 → normal_words table to ≡ from

-- what is read was spelled so, and is words, in normal form where the others are
abbrev pub WordsReadAreSpelled : Type 0
WordsReadAreSpelled = (state : StateKind) (words : List (List Bool)) (table : List Kind) (from to : List ℕ) (bits rest : List Bool) → IsCode words
    → AreKinds table → AreWords 64 from → words_at state words table from bits ≡ Ok (to, rest)
    → AreWords 64 to × (normal_words table from ≡ from → normal_words table to ≡ to)
    × (text : List Bool) × (bits ≡ text ++ rest) × SpellsWords state words table from to text

-- what is spelled so is read, with whatever follows it
abbrev pub WordsSpelledAreRead : Type 0
WordsSpelledAreRead = (state : StateKind) (words : List (List Bool)) (table : List Kind) (from to : List ℕ) (text rest : List Bool) → IsCode words
    → AreKinds table → AreWords 64 from → SpellsWords state words table from to text
    → words_at state words table from (text ++ rest) ≡ Ok (to, rest)

-- what is read over other words ends at the same place, or is refused in the same way
abbrev pub WordsEndAlike : Type 0
WordsEndAlike = (state : StateKind) (words : List (List Bool)) (table : List Kind) (from other : List ℕ) (bits : List Bool) → length from ≡ length other
    → left_of (words_at state words table from bits) ≡ left_of (words_at state words table other bits)
