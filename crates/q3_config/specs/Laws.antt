-- Laws of config strings and of the commands that change them.
use Rattle.std.specs.Prelude.{◌≡◌, ◌≢◌, ◌⊎◌, ℕ, ◌+◌, ◌<◌, ◌≤◌, ◌==◌, if◌then◌else◌, List, [], ◌++◌, length, map, set, slice_index_or, replicate, codes, Option, All, IfSome, IsTrue, None, Some}
use Rattle.std.specs.List.{range_with_len}
use Rattle.q3_text.specs.Texts.{IsText, IsTextByte, translated}
use Rattle.q3_config.specs.declared.error.ConfigError.{ConfigError}
use Rattle.q3_config.specs.Strings.{Strings, AreStrings, places, longest_string, most_size, size_of, config_size, is_config_byte, no_strings, with_string, set_fault, admit_fault, after_set}
use Rattle.q3_config.specs.Commands.{Change, change_text, change_in, config_piece, piece_count}
use Rattle.q3_config.specs.Changes.{after_command, after_commands}

-- a change as a text may carry it
pub record IsChange (change : Change) : Type 0 where
  pub index : change.index < places
  pub no_quote : All (λ byte. byte ≢ 34) change.text

-- what is spelled as a change is read as it, with its newline or without
abbrev pub SpelledIsRead : Type 0
SpelledIsRead = (change : Change) (text : List ℕ) → IsChange change → (text ≡ change_text change) ⊎ (text ++ codes "\n" ≡ change_text change)
    → change_in text ≡ Some change

-- what is read as a change was spelled so
abbrev pub ReadIsSpelled : Type 0
ReadIsSpelled = (change : Change) (text : List ℕ) → change_in text ≡ Some change
    → IsChange change × ((text ≡ change_text change) ⊎ (text ++ codes "\n" ≡ change_text change))

-- a text that is neither too long nor too large with the others
pub record HasRoom (strings : Strings) (index : ℕ) (text : List ℕ) : Type 0 where
  pub short : length text ≤ longest_string
  pub room : config_size (with_string strings index text).texts ≤ most_size

-- a text that may go out as commands
pub record Admitted (strings : Strings) (index : ℕ) (text : List ℕ) : Type 0 where
  pub within : index < places
  pub carried : All (λ byte. IsTrue (is_config_byte byte)) text
  pub fits : HasRoom strings index text

-- where nothing is wrong with a text, it is one
abbrev pub AdmittedMayGo : Type 0
AdmittedMayGo = (strings : Strings) (index : ℕ) (text : List ℕ) → admit_fault strings index text ≡ None → Admitted strings index text

-- a piece of a text in bytes that a command may carry is a change as a text may carry it
abbrev pub PiecesAreChanges : Type 0
PiecesAreChanges = (index : ℕ) (text : List ℕ) (k : ℕ) → index < places → All (λ byte. IsTrue (is_config_byte byte)) text → IsChange (config_piece index text k)

-- the size of empty strings, and of strings with another at an index
pub record SizesAddUp : Type 0 where
  pub empty : (count : ℕ) → config_size (replicate count []) ≡ 1
  pub set : (texts : List (List ℕ)) (index : ℕ) (text : List ℕ) → index < length texts
      → config_size (set texts index (map translated text)) + size_of (slice_index_or texts index []) ≡ config_size texts + size_of text

-- the texts of a change that goes out, piece by piece
abbrev pub piece_texts : ℕ → List ℕ → List (List ℕ)
piece_texts index text = map (λ k. change_text (config_piece index text k)) (range_with_len 0 (piece_count (length text)))

-- the pieces of a text that may go out are texts of commands
abbrev pub PiecesAreTexts : Type 0
PiecesAreTexts = (strings : Strings) (index : ℕ) (text : List ℕ) → admit_fault strings index text ≡ None → All IsText (piece_texts index text)

-- where the change may be made, the pieces in their order make that one change
abbrev pub PiecesMakeChange : Type 0
PiecesMakeChange = (strings : Strings) (index : ℕ) (text : List ℕ) → AreStrings strings → admit_fault strings index text ≡ None
    → after_commands strings (piece_texts index text)
    ≡ record (with_string strings index text) { pending = if piece_count (length text) == 1 then strings.pending else None }

-- strings are within their limits at first, and stay so, whatever is set and whatever a command does
pub record StringsStay : Type 0 where
  pub none : AreStrings no_strings
  pub set : (strings : Strings) (index : ℕ) (text : List ℕ) → AreStrings strings → AreStrings (after_set strings index text (set_fault strings index text))
  pub command : (strings : Strings) (text : List ℕ) → AreStrings strings → IsText text → AreStrings (after_command strings text).strings

-- strings of bytes that a text may hold, and so is the text that is pending
pub record HoldTexts (strings : Strings) : Type 0 where
  pub each : All (All IsTextByte) strings.texts
  pub pending : IfSome strings.pending (λ pending. All IsTextByte pending.text)

-- strings are so at first, and stay so, whatever text without a byte 0 is set and whatever a command does
pub record TextsStay : Type 0 where
  pub none : HoldTexts no_strings
  pub set : (strings : Strings) (index : ℕ) (text : List ℕ) (fault : Option ConfigError) → HoldTexts strings → All (λ byte. 0 < byte) text
      → HoldTexts (after_set strings index text fault)
  pub command : (strings : Strings) (text : List ℕ) → HoldTexts strings → IsText text → HoldTexts (after_command strings text).strings
