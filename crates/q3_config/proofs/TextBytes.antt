-- Strings of bytes that a text may hold stay so, whatever is set and whatever a command does.
use Rattle.std.proofs.Common.{◌≡◌, ℕ, ◌<◌, ◌++◌, ◌∷◌, eqb, ltb, false, List, [], length, replicate, map, Option, Some, None, inl, inr, refl, subst, arith}
use Rattle.std.specs.List.{All}
use Rattle.std.specs.Fmt.{decimal}
use Rattle.std.specs.Str.{bytes_eq}
use Rattle.std.proofs.Math.Seq.{drop-append_seam, take-append_seam}
use Rattle.std.proofs.lemmas.Bool.{cases_Bool, ne_eqb}
use Rattle.std.proofs.lemmas.List.Elements.{All-head, All-tail, All-nil, All-set, All-map, All-weaker, All-append, All-replicate, All-drop, All-take}
use Rattle.q3_text.specs.Texts.{translated, IsTextByte, IsText}
use Rattle.q3_config.specs.declared.error.ConfigError.{ConfigError}
use Rattle.q3_config.specs.Strings.{Strings, Pending, places, longest_string, string_at, with_string, set_fault, after_set}
use Rattle.q3_config.specs.Commands.{Word, Whole, First, Middle, Last, Change, spelled, change_in}
use Rattle.q3_config.specs.Changes.{without_pending, with_pending, change_or, make_change, finish, go_on, after_change, after_shape, after_command}
use Rattle.q3_config.specs.Laws.{HoldTexts, TextsStay}
use Rattle.q3_config.specs.Parts.{strings_with}
use Rattle.q3_config.proofs.ReadTexts.{shaped, parts_of}
use Rattle.q3_text.specs.Laws.{TextLaws}

-- a byte that isn't 0 is kept as one of a text
text_byte : (laws : TextLaws) (byte : ℕ) → 0 < byte → IsTextByte (translated byte)
text_byte laws byte some =
    let differs : eqb byte 0 ≡ false = ne_eqb byte 0 (λ e. omega arith) in
    All-head IsTextByte (translated byte) [] (laws.texts (byte ∷ []) (translated byte ∷ []) (laws.made (byte ∷ []) (omega arith) (rw differs refl))).each

kept : (laws : TextLaws) (text : List ℕ) → All (λ byte. 0 < byte) text → All IsTextByte (map translated text)
kept laws text some = All-map IsTextByte translated text (All-weaker (λ byte. 0 < byte) (λ byte. IsTextByte (translated byte)) (text_byte laws) text some)

none_zero : (text : List ℕ) → All IsTextByte text → All (λ byte. 0 < byte) text
none_zero text each = All-weaker IsTextByte (λ byte. 0 < byte) (λ byte is. is.some) text each

-- ---- what is set

none-holds : (n : ℕ) → HoldTexts (strings_with None (replicate n []))
none-holds n = record { each = All-replicate (All IsTextByte) n [] (All-nil IsTextByte); pending = tt }

with_string-holds : (laws : TextLaws) (strings : Strings) (index : ℕ) (text : List ℕ) → HoldTexts strings → All (λ byte. 0 < byte) text → HoldTexts (with_string strings index text)
with_string-holds laws strings index text hold some = record {
  each = All-set (All IsTextByte) strings.texts index (map translated text) (kept laws text some) hold.each;
  pending = hold.pending;
}

after_set-holds : (laws : TextLaws) (strings : Strings) (index : ℕ) (text : List ℕ) (fault : Option ConfigError) → HoldTexts strings → All (λ byte. 0 < byte) text → HoldTexts (after_set strings index text fault)
after_set-holds laws strings index text None hold some = with_string-holds laws strings index text hold some
after_set-holds laws strings index text (Some fault) hold some = hold

-- ---- what a command does

without_pending-holds : (strings : Strings) → HoldTexts strings → HoldTexts (without_pending strings)
without_pending-holds strings hold = record { each = hold.each; pending = tt }

with_pending-holds : (strings : Strings) (index : ℕ) (text : List ℕ) → HoldTexts strings → All IsTextByte text → HoldTexts (with_pending strings index text)
with_pending-holds strings index text hold each = record { each = hold.each; pending = each }

change_or-holds : (laws : TextLaws) (strings : Strings) (index : ℕ) (text : List ℕ) (fault : Option ConfigError) → HoldTexts strings → All IsTextByte text → HoldTexts (change_or strings index text fault).strings
change_or-holds laws strings index text None hold each = with_string-holds laws strings index text hold (none_zero text each)
change_or-holds laws strings index text (Some fault) hold each = without_pending-holds strings hold

make_change-holds : (laws : TextLaws) (strings : Strings) (index : ℕ) (text : List ℕ) → HoldTexts strings → All IsTextByte text → HoldTexts (make_change strings index text).strings
make_change-holds laws strings index text hold each =
    elim (cases_Bool (bytes_eq (string_at strings index) (map translated text))) [
      | inl same ↦ rw same hold
      | inr other ↦ rw other (change_or-holds laws strings index text (set_fault strings index text) hold each)
    ]

finish-holds : (laws : TextLaws) (strings : Strings) (word : Word) (index : ℕ) (text : List ℕ) → HoldTexts strings → All IsTextByte text → HoldTexts (finish strings word index text).strings
finish-holds laws strings Whole index text hold each = with_pending-holds strings index text hold each
finish-holds laws strings First index text hold each = with_pending-holds strings index text hold each
finish-holds laws strings Middle index text hold each = with_pending-holds strings index text hold each
finish-holds laws strings Last index text hold each = make_change-holds laws (without_pending strings) index text (without_pending-holds strings hold) each

go_on-holds : (laws : TextLaws) (strings : Strings) (word : Word) (index : ℕ) (text : List ℕ) (pending : Option Pending) → strings.pending ≡ pending → HoldTexts strings → All IsTextByte text → HoldTexts (go_on strings word index text pending).strings
go_on-holds laws strings word index text None is hold each = hold
go_on-holds laws strings word index text (Some pending) is hold each =
    let before : All IsTextByte pending.text = rw is at hold.pending in
    elim (cases_Bool (eqb pending.index index)) [
      | inl same ↦ elim (cases_Bool (ltb longest_string (length (pending.text ++ text)))) [
        | inl long ↦ rw (same, long) (without_pending-holds strings hold)
        | inr short ↦ rw (same, short) (finish-holds laws strings word index (pending.text ++ text) hold (All-append IsTextByte pending.text text before each))
      ]
      | inr other ↦ rw other hold
    ]

after_change-holds : (laws : TextLaws) (strings : Strings) (word : Word) (index : ℕ) (text : List ℕ) → HoldTexts strings → All IsTextByte text → HoldTexts (after_change strings word index text).strings
after_change-holds laws strings Whole index text hold each = make_change-holds laws strings index text hold each
after_change-holds laws strings First index text hold each = with_pending-holds strings index text hold each
after_change-holds laws strings Middle index text hold each = go_on-holds laws strings Middle index text strings.pending refl hold each
after_change-holds laws strings Last index text hold each = go_on-holds laws strings Last index text strings.pending refl hold each

-- what holds of each byte of texts that are joined holds of those of the second, and of the first
after_front : (P : ℕ → Type 0) (front rest : List ℕ) → All P (front ++ rest) → All P rest
after_front P front rest each = subst (λ (bytes : List ℕ). All P bytes) (drop-append_seam front rest) (All-drop P (length front) (front ++ rest) each)

before : (P : ℕ → Type 0) (front rest : List ℕ) → All P (front ++ rest) → All P front
before P front rest each = subst (λ (bytes : List ℕ). All P bytes) (take-append_seam front rest) (All-take P (length front) (front ++ rest) each)

-- and so of what stands between the quotes
body : (P : ℕ → Type 0) (change : Change) (end : List ℕ) → All P (shaped change end) → All P change.text
body P change end each =
    let quoted = change.text ++ 34 ∷ end in
    let number = decimal change.index ++ 32 ∷ (34 ∷ quoted) in
    let at_number = All-tail P 32 number (after_front P (spelled change.word) (32 ∷ number) each) in
    let at_quote = All-tail P 32 (34 ∷ quoted) (after_front P (decimal change.index) (32 ∷ (34 ∷ quoted)) at_number) in
    before P change.text (34 ∷ end) (All-tail P 34 quoted at_quote)

after_shape-holds : (laws : TextLaws) (strings : Strings) (text : List ℕ) (change : Option Change) → change_in text ≡ change → HoldTexts strings → IsText text → HoldTexts (after_shape strings change).strings
after_shape-holds laws strings text None is hold is_text = hold
after_shape-holds laws strings text (Some change) is hold is_text =
    let parts = parts_of laws text change is in
    after_change-holds laws strings change.word change.index change.text hold (body IsTextByte change parts.end (rw parts.is at is_text.each))

after_command-holds : (laws : TextLaws) (strings : Strings) (text : List ℕ) → HoldTexts strings → IsText text → HoldTexts (after_command strings text).strings
unfolding after_command
after_command-holds laws strings text hold is_text = after_shape-holds laws strings text (change_in text) refl hold is_text

pub texts-stay : (laws : TextLaws) → TextsStay
texts-stay laws = record { none = none-holds places; set = after_set-holds laws; command = after_command-holds laws }
