-- What a command does to config strings that are kept.
use Rattle.std.specs.Prelude.{ℕ, ◌==◌, nat_lt, if◌then◌else◌, Bool, true, false, List, [], ◌∷◌, ◌++◌, length, map, Option, Some, None}
use Rattle.q3_config.specs.declared.error.ConfigError.{ConfigError}
use Rattle.q3_config.specs.Strings.{Strings, Pending, longest_string, string_at, with_string, set_fault, has_string}
use Rattle.q3_config.specs.Commands.{Word, Whole, First, Middle, Last, Change, change_in}

-- the strings after a command, and whether one of them changed
pub record Applied : Type 0 where
  pub strings : Strings
  pub changed : Bool

-- no string changed
abbrev pub unchanged : Strings → Applied
unchanged strings = record { strings = strings; changed = false }

-- nothing is pending
abbrev pub without_pending : Strings → Strings
without_pending strings = record strings { pending = None }

-- this text is pending, for this index
abbrev pub with_pending : Strings → ℕ → List ℕ → Strings
with_pending strings index text = record strings { pending = Some (record { index = index; text = text }) }

-- a change that is made, or one that would be too long or too large, which isn't made and ends a pending text
abbrev pub change_or : Strings → ℕ → List ℕ → Option ConfigError → Applied
change_or strings index text None = record { strings = with_string strings index text; changed = true }
change_or strings index text (Some fault) = unchanged (without_pending strings)

-- a change to another text; to the text that is there it is none
abbrev pub make_change : Strings → ℕ → List ℕ → Applied
make_change strings index text =
    if has_string strings index text then unchanged strings
    else change_or strings index text (set_fault strings index text)

-- a pending text with one piece more: after the last the change is made, and nothing is pending
abbrev pub finish : Strings → Word → ℕ → List ℕ → Applied
finish strings Last index text = make_change (without_pending strings) index text
finish strings other index text = unchanged (with_pending strings index text)

-- a piece after what is pending, which ends where it would get too long
abbrev pub grow : Strings → Word → ℕ → List ℕ → Applied
grow strings word index text =
    if nat_lt longest_string (length text) then unchanged (without_pending strings) else finish strings word index text

-- a piece goes on with a pending text of its index; without one it changes nothing
abbrev pub go_on : Strings → Word → ℕ → List ℕ → Option Pending → Applied
go_on strings word index text None = unchanged strings
go_on strings word index text (Some pending) =
    if pending.index == index then grow strings word index (pending.text ++ text) else unchanged strings

-- what a change does
abbrev pub after_change : Strings → Word → ℕ → List ℕ → Applied
after_change strings Whole index text = make_change strings index text
after_change strings First index text = unchanged (with_pending strings index text)
after_change strings Middle index text = go_on strings Middle index text strings.pending
after_change strings Last index text = go_on strings Last index text strings.pending

-- what a command's text does: one of another shape changes nothing
abbrev pub after_shape : Strings → Option Change → Applied
after_shape strings None = unchanged strings
after_shape strings (Some change) = after_change strings change.word change.index change.text

unfoldable pub after_command : Strings → List ℕ → Applied
after_command strings text = after_shape strings (change_in text)

-- the strings after commands, one after the other
unfoldable pub after_commands : Strings → List (List ℕ) → Strings
after_commands strings [] = strings
after_commands strings (text ∷ texts) = after_commands (after_command strings text).strings texts
