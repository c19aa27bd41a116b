-- Config strings: a string for each index, empty where none is set, and their size.
use Rattle.std.specs.Prelude.{◌≡◌, ℕ, ◌+◌, ◌==◌, ◌<◌, ◌≤◌, nat_lt, nat_le, ◌&&◌, not, if◌then◌else◌, Bool, List, [], length, map, replicate, find, sum, All, slice_index_or, slice_set, Option, Some, None, IfSome, Result, Ok, Err, codes, option_and_then}
use Rattle.std.specs.Str.{bytes_eq}
use Rattle.q3_text.specs.Texts.{translated}
use Rattle.q3_text.specs.Info.{info_of}
use Rattle.q3_text.specs.Decimals.{info_number}
use Rattle.q3_config.specs.declared.error.ConfigError.{ConfigError}
use Rattle.q3_config.specs.declared.error.ConfigError.TheVariants.{Index, Chars, Long, Full}

-- how many strings there are
abbrev pub places : ℕ
places = 1024

-- the longest string, and the greatest size
abbrev pub longest_string : ℕ
longest_string = 8191

abbrev pub most_size : ℕ
most_size = 16000

-- a big text of which pieces came, and the index that it is for
pub record Pending : Type 0 where
  pub index : ℕ
  pub text : List ℕ

-- a string for each index, and the text that is pending, if one is
pub record Strings : Type 0 where
  pub texts : List (List ℕ)
  pub pending : Option Pending

-- no string is set, and nothing is pending
abbrev pub no_strings : Strings
no_strings = record { texts = replicate places []; pending = None }

-- the string at an index; past the last index it is empty
abbrev pub string_at : Strings → ℕ → List ℕ
string_at strings index = slice_index_or strings.texts index []

-- whether a string is a text already, as it is kept
abbrev pub has_string : Strings → ℕ → List ℕ → Bool
has_string strings index text = bytes_eq (string_at strings index) (map translated text)

-- what a string adds to the size: its length and one byte, unless it is empty
abbrev pub size_of : List ℕ → ℕ
size_of [] = 0
size_of text = length text + 1

-- the size of the strings together
unfoldable pub config_size : List (List ℕ) → ℕ
config_size texts = 1 + sum (map size_of texts)

-- strings as they may be kept
pub record AreStrings (strings : Strings) : Type 0 where
  pub count : length strings.texts ≡ places
  pub size : config_size strings.texts ≤ most_size
  pub each : All (λ text. length text ≤ longest_string) strings.texts
  pub pending : IfSome strings.pending (λ pending. (pending.index < places) × (length pending.text ≤ longest_string))

-- another string at an index, as it is kept: each byte translated
abbrev pub with_string : Strings → ℕ → List ℕ → Strings
with_string strings index text = record strings { texts = slice_set strings.texts index (map translated text) }

-- whether the strings with this one at an index are within their size
abbrev pub fits : Strings → ℕ → List ℕ → Bool
fits strings index text = nat_le (config_size (with_string strings index text).texts) most_size

-- what is wrong with a text for an index as such: the size comes last
abbrev pub room_fault : Strings → ℕ → List ℕ → Option ConfigError
room_fault strings index text =
    if nat_lt longest_string (length text) then Some Long else
    if fits strings index text then None else Some Full

-- what is wrong with setting a text
unfoldable pub set_fault : Strings → ℕ → List ℕ → Option ConfigError
set_fault strings index text = if nat_lt index places then room_fault strings index text else Some Index

-- a byte that a config command may carry: 32 to 126, and no quote
abbrev pub is_config_byte : ℕ → Bool
is_config_byte byte = nat_le 32 byte && nat_le byte 126 && not (byte == 34)

-- the first other byte, if there is one, or else what is wrong with the room
abbrev pub chars_fault : Strings → ℕ → List ℕ → Option ℕ → Option ConfigError
chars_fault strings index text (Some byte) = Some (Chars byte)
chars_fault strings index text None = room_fault strings index text

-- what is wrong with a change that is to go out as commands
unfoldable pub admit_fault : Strings → ℕ → List ℕ → Option ConfigError
admit_fault strings index text =
    if nat_lt index places then chars_fault strings index text (find (λ byte. not (is_config_byte byte)) text) else Some Index

-- the answer of a call that is refused for a fault, if there is one
abbrev pub refused : Option ConfigError → Result (Unit {0}) ConfigError
refused None = Ok tt
refused (Some fault) = Err fault

-- the strings with a text set, or as they were where it is refused
abbrev pub after_set : Strings → ℕ → List ℕ → Option ConfigError → Strings
after_set strings index text None = with_string strings index text
after_set strings index text (Some fault) = strings

-- the id of the server's map: the number that string 1, an info string, has under `sv_serverid`, if it has one
unfoldable pub server_id : Strings → Option ℕ
server_id strings = option_and_then info_number (info_of (string_at strings 1) (codes "sv_serverid"))
