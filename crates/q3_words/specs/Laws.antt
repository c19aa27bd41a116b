-- What words spell: what is read was spelled so, and what is spelled so is read.
use Rattle.std.specs.Prelude.{◌≡◌, ◌==◌, ℕ, ◌<◌, ◌≤◌, ◌^◌, List, ◌∷◌, ◌++◌, length, take, drop, All, decimal, Some, Ok}
use Rattle.std.specs.List.{position_or_len, join_with_byte}
use Rattle.arrayvec.specs.ArrayVec.{ArrayVec}
use Rattle.q3_io.specs.declared.address.Address.{Address}
use Rattle.q3_entity.specs.declared.state.EntityState.{EntityState}
use Rattle.q3_player.specs.declared.state.PlayerState.{PlayerState}
use Rattle.q3_text.specs.Laws.{TextLaws}
use Rattle.q3_words.specs.Words.{words_of, words_left, after_prefix}
use Rattle.q3_words.specs.Numbers.{number_word}
use Rattle.q3_words.specs.Addresses.{address_at, SpellsAddress}
use Rattle.q3_words.specs.Hex.{most_area, hex_within, area_at, SpellsHex}
use Rattle.q3_words.specs.Names.{IsName, name_at}
use Rattle.q3_words.specs.Quotes.{bytes_word, text_word, SpellsBytes, SpellsText}
use Rattle.q3_words.specs.Fields.{entity_at, player_at, SpellsEntity, SpellsPlayer}

-- words that a line is cut into
abbrev pub IsOfLine : List (List ℕ) → Type 0
IsOfLine words = (line : List ℕ) × (words ≡ words_of line)

-- words in what is left of a line
abbrev pub AreLeft : List (List ℕ) → Type 0
AreLeft words = (left : List ℕ) × (words ≡ words_left left)

-- the first word of a line ends at its first space, or at its end; and what is left of one after its first word is a line
pub record LinesAreCut : Type 0 where
  pub first : (line : List ℕ) → words_of line ≡ take (position_or_len (λ byte. byte == 32) line) line ∷ words_left (drop (position_or_len (λ byte. byte == 32) line) line)
  pub others : (word next : List ℕ) (words : List (List ℕ)) → AreLeft (word ∷ next ∷ words) → IsOfLine (next ∷ words)

-- what follows a prefix
pub record PrefixesAreSpelled : Type 0 where
  pub spelled : (prefix text rest : List ℕ) → after_prefix prefix text ≡ Some rest → text ≡ prefix ++ rest
  pub read : (prefix rest : List ℕ) → after_prefix prefix (prefix ++ rest) ≡ Some rest

-- numbers below 2 ^ 64
pub record NumbersAreSpelled : Type 0 where
  pub spelled : (low high : ℕ) (word : List ℕ) (n : ℕ) → high < 2 ^ 64 → number_word low high word ≡ Ok n → (low ≤ n) × (n ≤ high) × (word ≡ decimal n)
  pub read : (low high n : ℕ) → high < 2 ^ 64 → low ≤ n → n ≤ high → number_word low high (decimal n) ≡ Ok n

-- a word that was read as an address spells it, with a port above 0
pub record WasAddress (word : List ℕ) (address : Address) : Type 0 where
  pub spelled : SpellsAddress word address
  pub least : 1 ≤ address.port
  pub most : address.port < 2 ^ 16

-- addresses
pub record AddressesAreSpelled : Type 0 where
  pub spelled : (word : List ℕ) (address : Address) → address_at word ≡ Some address → WasAddress word address
  pub read : (word : List ℕ) (address : Address) → SpellsAddress word address → 1 ≤ address.port → address.port < 2 ^ 16 → address_at word ≡ Some address

-- a word that was read as a name is it
pub record WasName (word name : List ℕ) : Type 0 where
  pub same : word ≡ name
  pub is : IsName name

-- names of files
pub record NamesAreSpelled : Type 0 where
  pub spelled : (word name : List ℕ) → name_at word ≡ Some name → WasName word name
  pub read : (name : List ℕ) → IsName name → name_at name ≡ Some name

-- a word that was read as bytes in hex spells them, at most so many
pub record WereFew (limit : ℕ) (word bytes : List ℕ) : Type 0 where
  pub spelled : SpellsHex word bytes
  pub few : length bytes ≤ limit
  pub each : All (λ byte. byte < 256) bytes

-- bytes in hex, at most so many
pub record HexIsSpelled : Type 0 where
  pub spelled : (limit : ℕ) (word bytes : List ℕ) → hex_within limit word ≡ Some bytes → WereFew limit word bytes
  pub read : (limit : ℕ) (word bytes : List ℕ) → SpellsHex word bytes → length bytes ≤ limit → All (λ byte. byte < 256) bytes → hex_within limit word ≡ Some bytes

-- area bytes of a snapshot, in hex
pub record AreasAreSpelled : Type 0 where
  pub spelled : (word : List ℕ) (area : ArrayVec ℕ) → area_at word ≡ Some area → WereFew most_area word area.items
  pub read : (word : List ℕ) (area : ArrayVec ℕ) → SpellsHex word area.items → length area.items ≤ most_area → All (λ byte. byte < 256) area.items → area_at word ≡ Some area

-- bytes in quotes, at most so many
pub record BytesAreSpelled : Type 0 where
  pub spelled : (limit : ℕ) (word bytes : List ℕ) → bytes_word limit word ≡ Ok bytes → (length bytes ≤ limit) × SpellsBytes (words_of word) bytes
  pub read : (limit : ℕ) (words : List (List ℕ)) (bytes : List ℕ) → length bytes ≤ limit → SpellsBytes words bytes → bytes_word limit (join_with_byte 32 words) ≡ Ok bytes

-- texts in quotes
pub record TextsAreSpelled : Type 0 where
  pub spelled : (word text : List ℕ) → text_word word ≡ Ok text → SpellsText (words_of word) text
  pub read : (words : List (List ℕ)) (text : List ℕ) → SpellsText words text → text_word (join_with_byte 32 words) ≡ Ok text

-- words that were read as an entity of a number spell it, but for the number
pub record WasEntity (number : ℕ) (words : List (List ℕ)) (entity : EntityState) : Type 0 where
  pub is : entity.number ≡ number
  pub spelled : SpellsEntity words entity

-- entities, but for their numbers
pub record EntitiesAreSpelled : Type 0 where
  pub spelled : (number : ℕ) (words : List (List ℕ)) (entity : EntityState) → entity_at number words ≡ Ok entity → WasEntity number words entity
  pub read : (words : List (List ℕ)) (entity : EntityState) → SpellsEntity words entity → entity_at entity.number words ≡ Ok entity

-- players
pub record PlayersAreSpelled : Type 0 where
  pub spelled : (words : List (List ℕ)) (player : PlayerState) → player_at words ≡ Ok player → SpellsPlayer words player
  pub read : (words : List (List ℕ)) (player : PlayerState) → SpellsPlayer words player → player_at words ≡ Ok player

-- all of these, and the laws of texts that they stand on
pub record WordLaws : Type 0 where
  pub below : TextLaws
  pub lines : LinesAreCut
  pub prefixes : PrefixesAreSpelled
  pub numbers : NumbersAreSpelled
  pub addresses : AddressesAreSpelled
  pub names : NamesAreSpelled
  pub hex : HexIsSpelled
  pub areas : AreasAreSpelled
  pub bytes : BytesAreSpelled
  pub texts : TextsAreSpelled
  pub entities : EntitiesAreSpelled
  pub players : PlayersAreSpelled
