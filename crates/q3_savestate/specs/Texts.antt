-- Config strings and the text that is pending as bytes.
use Rattle.std.specs.Prelude.{ℕ, zero, suc, ◌+◌, ◌-◌, ◌==◌, if◌then◌else◌, List, [], ◌∷◌, ◌++◌, length, min, replicate, slice_set, Option, Some, None, Ok}
use Rattle.byteorder.specs.Endian.{little_bytes}
use Rattle.q3_bits.specs.ResultBind.{◌>>=◌}
use Rattle.q3_config.specs.Strings.{Pending, places, longest_string, most_size, config_size}
use Rattle.q3_savestate.specs.Cursor.{Cursor, Field, number_at, text_at}
use Rattle.q3_savestate.specs.Entities.{counted}

-- ---- strings

-- those that aren't empty, each with its index, from an index on
unfoldable pub set_strings : ℕ → List (List ℕ) → List (ℕ × List ℕ)
set_strings index [] = []
set_strings index ([] ∷ texts) = set_strings (index + 1) texts
set_strings index (text ∷ texts) = (index, text) ∷ set_strings (index + 1) texts

-- an index, a length and as many bytes
abbrev pub string_bytes : ℕ × List ℕ → List ℕ
string_bytes string = little_bytes 2 string.0 ++ little_bytes 2 (length string.1) ++ string.1

abbrev pub strings_bytes : List (List ℕ) → List ℕ
strings_bytes texts = counted string_bytes (set_strings 0 texts)

-- how long one more string may be
abbrev pub room_in : List (List ℕ) → ℕ
room_in texts = min longest_string (most_size - config_size texts - 1)

-- so many, by rising index from least on, beside others
unfoldable pub strings_after : ℕ → ℕ → List (List ℕ) → Cursor → Field (List (List ℕ))
strings_after zero least texts cursor = Ok (texts, cursor)
strings_after (suc count) least texts cursor = do
  index ← number_at 2 least (places - 1) cursor
  length ← number_at 2 1 (room_in texts) index.1
  text ← text_at length.0 length.1
  strings_after count (index.0 + 1) (slice_set texts index.0 text.0) text.1

unfoldable pub strings_at : Cursor → Field (List (List ℕ))
strings_at cursor = do
  count ← number_at 2 0 places cursor
  strings_after count.0 0 (replicate places []) count.1

-- ---- the text that is pending

abbrev pub pending_bytes : Option Pending → List ℕ
pending_bytes None = little_bytes 1 0
pending_bytes (Some pending) = little_bytes 1 1 ++ little_bytes 4 pending.index ++ little_bytes 2 (length pending.text) ++ pending.text

abbrev pub some_pending_at : Cursor → Field (Option Pending)
some_pending_at cursor = do
  index ← number_at 4 0 (places - 1) cursor
  length ← number_at 2 0 longest_string index.1
  text ← text_at length.0 length.1
  Ok (Some (record { index = index.0; text = text.0 }), text.1)

unfoldable pub pending_at : Cursor → Field (Option Pending)
pending_at cursor = do
  some ← number_at 1 0 1 cursor
  if some.0 == 0 then Ok (None, some.1) else some_pending_at some.1
