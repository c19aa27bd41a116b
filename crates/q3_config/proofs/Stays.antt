-- Strings stay within their limits, whatever is set and whatever a command does.
use Rattle.std.proofs.Common.{◌≡◌, ℕ, ◌<◌, ◌≤◌, ◌++◌, ◌∷◌, eqb, ltb, List, length, Option, Some, None, inl, inr, refl, ap, arith, length-append}
use Rattle.std.specs.Fmt.{decimal}
use Rattle.std.proofs.lemmas.Bool.{cases_Bool, ltb-false}
use Rattle.q3_text.specs.Texts.{IsText}
use Rattle.q3_config.specs.Strings.{Strings, Pending, AreStrings, places, longest_string}
use Rattle.q3_config.specs.Commands.{Word, Whole, First, Middle, Last, Change, spelled, change_in}
use Rattle.q3_config.specs.Changes.{without_pending, finish, go_on, after_change, after_shape, after_command}
use Rattle.q3_config.specs.Laws.{StringsStay}
use Rattle.q3_config.proofs.Faults.{after_set-stays}
use Rattle.q3_config.proofs.Kept.{none-are, pending-stays, without_pending-stays, make_change-stays}
use Rattle.q3_config.proofs.ReadTexts.{parts_of}
use Rattle.q3_text.specs.Laws.{TextLaws}

finish-stays : (strings : Strings) (word : Word) (index : ℕ) (text : List ℕ) → AreStrings strings → index < places → length text ≤ longest_string → AreStrings (finish strings word index text).strings
finish-stays strings Whole index text are within short = pending-stays strings index text are within short
finish-stays strings First index text are within short = pending-stays strings index text are within short
finish-stays strings Middle index text are within short = pending-stays strings index text are within short
finish-stays strings Last index text are within short = make_change-stays (without_pending strings) index text (without_pending-stays strings are)

go_on-stays : (strings : Strings) (word : Word) (index : ℕ) (text : List ℕ) (pending : Option Pending) → AreStrings strings → index < places → AreStrings (go_on strings word index text pending).strings
go_on-stays strings word index text None are within = are
go_on-stays strings word index text (Some pending) are within = elim (cases_Bool (eqb pending.index index)) [
  | inl same ↦ elim (cases_Bool (ltb longest_string (length (pending.text ++ text)))) [
    | inl long ↦ rw (same, long) (without_pending-stays strings are)
    | inr short ↦ rw (same, short) (finish-stays strings word index (pending.text ++ text) are within (ltb-false _ _ short))
  ]
  | inr other ↦ rw other are
]

after_change-stays : (strings : Strings) (word : Word) (index : ℕ) (text : List ℕ) → AreStrings strings → index < places → length text ≤ longest_string → AreStrings (after_change strings word index text).strings
after_change-stays strings Whole index text are within short = make_change-stays strings index text are
after_change-stays strings First index text are within short = pending-stays strings index text are within short
after_change-stays strings Middle index text are within short = go_on-stays strings Middle index text strings.pending are within
after_change-stays strings Last index text are within short = go_on-stays strings Last index text strings.pending are within

-- what stands between the quotes is no longer than the text
length-body : (word number body end : List ℕ) → length body ≤ length (word ++ 32 ∷ (number ++ 32 ∷ (34 ∷ (body ++ 34 ∷ end))))
length-body word number body end = omega (arith, length-append word (32 ∷ (number ++ 32 ∷ (34 ∷ (body ++ 34 ∷ end)))), length-append number (32 ∷ (34 ∷ (body ++ 34 ∷ end))), length-append body (34 ∷ end))

after_shape-stays : (laws : TextLaws) (strings : Strings) (text : List ℕ) (change : Option Change) → change_in text ≡ change → AreStrings strings → IsText text → AreStrings (after_shape strings change).strings
after_shape-stays laws strings text None is are is_text = are
after_shape-stays laws strings text (Some change) is are is_text =
    let parts = parts_of laws text change is in
    let size = ap (λ (bytes : List ℕ). length bytes) parts.is in
    let few = is_text.short in
    after_change-stays strings change.word change.index change.text are parts.fine.index (omega (arith, length-body (spelled change.word) (decimal change.index) change.text parts.end))

after_command-stays : (laws : TextLaws) (strings : Strings) (text : List ℕ) → AreStrings strings → IsText text → AreStrings (after_command strings text).strings
unfolding after_command
after_command-stays laws strings text are is_text = after_shape-stays laws strings text (change_in text) refl are is_text

pub strings-stay : (laws : TextLaws) → StringsStay
strings-stay laws = record { none = none-are; set = after_set-stays; command = after_command-stays laws }
