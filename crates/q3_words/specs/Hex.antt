-- The bytes that a word spells in hex.
use Rattle.std.specs.Prelude.{◌≡◌, ℕ, ◌==◌, ◌&&◌, ◌||◌, Bool, if◌then◌else◌, List, [], length, codes, nat_le, Option, Some, None}
use Rattle.std.specs.List.{list_any}
use Rattle.std.specs.Result.{result_ok}
use Rattle.std.specs.Str.{bytes_eq}
use Rattle.hex.specs.Hex.{decode_of}
use Rattle.arrayvec.specs.ArrayVec.{ArrayVec}
use Rattle.q3_io.specs.Print.{hex_word}
use Rattle.q3_bits.specs.OptionBind.{◌>>=◌}

abbrev pub is_capital : ℕ → Bool
is_capital byte = nat_le 65 byte && nat_le byte 90

-- the bytes that a word spells so
unfoldable pub hex_at : List ℕ → Option (List ℕ)
hex_at word =
    if bytes_eq (codes "-") word then Some []
    else if (length word == 0) || list_any is_capital word then None
    else result_ok (decode_of word)

-- the most area bytes of a snapshot
abbrev pub most_area : ℕ
most_area = 32

-- the bytes that a word spells, if they are at most so many
unfoldable pub hex_within : ℕ → List ℕ → Option (List ℕ)
hex_within most word = do
  bytes ← hex_at word
  if nat_le (length bytes) most then Some bytes else None

-- the area bytes that a word spells
unfoldable pub area_at : List ℕ → Option (ArrayVec ℕ)
area_at word = do
  bytes ← hex_within most_area word
  Some (record { items = bytes })

-- the most bytes that are handed to an end
abbrev pub most_handed : ℕ
most_handed = 16400

-- the bytes that a word spells to be handed to an end
abbrev pub handed_at : List ℕ → Option (List ℕ)
handed_at word = hex_within most_handed word

-- bytes in hex
abbrev pub SpellsHex : List ℕ → List ℕ → Type 0
SpellsHex word bytes = word ≡ hex_word bytes
