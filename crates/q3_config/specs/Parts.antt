-- What the parts of kept strings do: the strings themselves, the text that is pending, and the change that a text is read as.
use Rattle.std.specs.Prelude.{ℕ, Bool, List, Option, Some, None}
use Rattle.q3_config.specs.Strings.{Strings, Pending}
use Rattle.q3_config.specs.declared.shapes.Word as code
use Rattle.q3_config.specs.declared.shapes.Word.TheVariants as read
use Rattle.q3_config.specs.declared.shapes.Change as changes
use Rattle.q3_config.specs.Commands.{Word, Whole, First, Middle, Last, Change}
use Rattle.q3_config.specs.Changes.{Applied, unchanged, finish}

-- strings, with this pending text or none
abbrev pub strings_with : Option Pending → List (List ℕ) → Strings
strings_with pending texts = record { texts = texts; pending = pending }

-- what an attempt to change a string leaves: it changed or was the same, or couldn't be, which ends the pending text
abbrev pub attempted : Option Pending → List (List ℕ) → Option Bool → Applied
attempted pending texts (Some changed) = record { strings = strings_with pending texts; changed = changed }
attempted pending texts None = unchanged (strings_with None texts)

-- what is still to be done where a piece came after the pending text
abbrev pub finished : Strings → Word → Option Pending → Applied
finished strings word None = unchanged strings
finished strings word (Some pending) = finish strings word pending.index pending.text

-- the word that the code's stands for
abbrev pub meant : code.Word → Word
meant read.Whole = Whole
meant read.First = First
meant read.Middle = Middle
meant read.Last = Last

-- the change that the code's stands for
abbrev pub told : changes.Change → Change
told change = record { word = meant change.word; index = change.index; text = change.text.now }
