-- Texts and bytes in quotes, and the bytes that they spell.
use Rattle.std.specs.Prelude.{◌≡◌, ◌<◌, ℕ, zero, suc, All, Ok, ◌==◌, ◌&&◌, ◌||◌, not, Bool, if◌then◌else◌, List, [], ◌∷◌, length, codes, nat_le, Option, Some, None, option_map, Result}
use Rattle.std.specs.List.{list_any}
use Rattle.std.specs.Option.{ok_or}
use Rattle.std.specs.Result.{result_ok}
use Rattle.std.specs.Str.{bytes_eq}
use Rattle.hex.specs.Hex.{pair_value}
use Rattle.q3_text.specs.Texts.{text_of}
use Rattle.q3_words.specs.declared.cause.LineCause.{LineCause}
use Rattle.q3_words.specs.declared.cause.LineCause.TheVariants as causes
use Rattle.q3_io.specs.Quoted.{quoted}
use Rattle.q3_words.specs.Words.{after_prefix, words_of}
use Rattle.q3_words.specs.Hex.{is_capital}
use Rattle.q3_bits.specs.OptionBind.{◌>>=◌}

-- a byte that prints
abbrev pub is_printed : ℕ → Bool
is_printed byte = nat_le 32 byte && nat_le byte 126

-- a byte that is spelled in hex: none that prints, no newline and no 0
abbrev pub is_coded : ℕ → Bool
is_coded byte = not ((byte == 0) || (byte == 10) || is_printed byte)

-- the byte that two hex digits with small letters spell
unfoldable pub hex_byte : ℕ → ℕ → Option ℕ
hex_byte high low = if list_any is_capital (high ∷ low ∷ []) then None else result_ok (pair_value high low 0)

-- the same, if it is spelled so
unfoldable pub coded_byte : ℕ → ℕ → Option ℕ
coded_byte high low = do
  byte ← hex_byte high low
  if is_coded byte then Some byte else None

-- the byte of two digits after `\x`, and the text after them
abbrev pub coded_at : List ℕ → Option (ℕ × List ℕ)
coded_at (high ∷ low ∷ text) = option_map (λ byte. (byte, text)) (coded_byte high low)
coded_at text = None

-- the byte that is spelled by what follows a backslash, and the text after it
abbrev pub escaped_at : List ℕ → Option (ℕ × List ℕ)
escaped_at [] = None
escaped_at (letter ∷ text) =
    if letter == 34 then Some (34, text)
    else if letter == 92 then Some (92, text)
    else if letter == 110 then Some (10, text)
    else if letter == 120 then coded_at text
    else None

-- the byte whose spelling a text begins with, and the text after it
unfoldable pub front_at : List ℕ → Option (ℕ × List ℕ)
front_at [] = None
front_at (byte ∷ text) =
    if byte == 92 then escaped_at text
    else if byte == 34 then None
    else if is_printed byte then Some (byte, text)
    else None

-- the bytes that a text spells up to a quote at its end, read in at most so many steps
unfoldable pub bytes_at : ℕ → List ℕ → Option (List ℕ)
bytes_at zero text = None
bytes_at (suc steps) text =
    if bytes_eq (codes "\"") text then Some []
    else (do
      front ← front_at text
      bytes ← bytes_at steps front.1
      Some (front.0 ∷ bytes))

-- the bytes that a word in quotes spells; each step takes a byte of it at least
unfoldable pub unquoted_at : List ℕ → Option (List ℕ)
unquoted_at word = do
  text ← after_prefix (codes "\"") word
  bytes_at (length text) text

-- those bytes, if they are at most so many
abbrev pub few_at : ℕ → List ℕ → Option (List ℕ)
few_at most word = do
  bytes ← unquoted_at word
  if nat_le (length bytes) most then Some bytes else None

abbrev pub bytes_word : ℕ → List ℕ → Result (List ℕ) LineCause
bytes_word most word = ok_or (few_at most word) causes.Text

-- the text of the bytes that a word in quotes spells
unfoldable pub text_at : List ℕ → Option (List ℕ)
text_at word = do
  bytes ← unquoted_at word
  result_ok (text_of bytes)

abbrev pub text_word : List ℕ → Result (List ℕ) LineCause
text_word word = ok_or (text_at word) causes.Text

-- the most bytes of the text of a config string in a script
abbrev pub most_config : ℕ
most_config = 9000

-- the words of bytes in quotes, none of them 0
pub record SpellsBytes (words : List (List ℕ)) (bytes : List ℕ) : Type 0 where
  pub are_bytes : All (λ byte. (0 < byte) × (byte < 256)) bytes
  pub whole : words ≡ words_of (quoted bytes)

-- the words of bytes in quotes, none of them 0, which become a text
pub record SpellsText (words : List (List ℕ)) (text : List ℕ) : Type 0 where
  pub bytes : List ℕ
  pub are_bytes : All (λ byte. (0 < byte) × (byte < 256)) bytes
  pub becomes : text_of bytes ≡ Ok text
  pub whole : words ≡ words_of (quoted bytes)
