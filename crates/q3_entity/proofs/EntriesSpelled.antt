-- The spellings of entries after the number of the first, and the end mark.
use Rattle.std.proofs.Common.{◌≡◌, ℕ, ◌≤◌, Bool, List, [], ◌∷◌, ◌++◌, refl, sym, ap, ◌∙◌, append_assoc, arith}
use Rattle.std.proofs.lemmas.List.{append-nil}
use Rattle.q3_bits.specs.Words.{field_bits}
use Rattle.q3_fields.specs.Kinds.{Layout, end_mark}
use Rattle.q3_entity.specs.declared.state.EntityState.{EntityState}
use Rattle.q3_entity.specs.Entities.{with_number}
use Rattle.q3_entity.specs.Baselines.{Baselines}
use Rattle.q3_entity.specs.Lists.{words_from}
use Rattle.q3_entity.specs.Spelling.{Entered, SpellsEntries, EntriesRise}
use Rattle.q3_entity.proofs.EntrySpelled.{SpellsMarks, entry_of_marks, marks_of_entry}

-- the number that comes first
abbrev pub first_number : Layout → List Entered → ℕ
first_number table [] = end_mark table
first_number table (entry ∷ entries) = entry.number

-- it is one that may come, where the entries rise
pub first-least : (table : Layout) (least : ℕ) (entries : List Entered) → least ≤ end_mark table → EntriesRise (end_mark table) least entries
    → (least ≤ first_number table entries) × (first_number table entries ≤ end_mark table)
first-least table least [] below rise = (below, omega arith)
first-least table least (entry ∷ entries) below rise = (rise.0, omega (arith, rise.1))

-- what follows it
abbrev pub SpellsAfter : List (List Bool) → Layout → Baselines → List EntityState → List Entered → List Bool → Type 0
SpellsAfter words table baselines base [] text = text ≡ []
SpellsAfter words table baselines base (entry ∷ entries) text =
    (own : List Bool) × (rest : List Bool) × (text ≡ own ++ (field_bits words table.number_bits (first_number table entries) ++ rest))
    × SpellsMarks words table (words_from baselines entry.number (with_number entry.number base)) entry.words own
    × SpellsAfter words table baselines base entries rest

-- a number and what follows it spell the entries
pub entries_of_after : (words : List (List Bool)) (table : Layout) (baselines : Baselines) (base : List EntityState) (entries : List Entered) (text : List Bool) → SpellsAfter words table baselines base entries text
    → SpellsEntries words table baselines base entries (field_bits words table.number_bits (first_number table entries) ++ text)
entries_of_after words table baselines base [] text s = rw (s, append-nil) refl
entries_of_after words table baselines base (entry ∷ entries) text (own, rest, whole, marks, after) =
    let number = field_bits words table.number_bits entry.number in
    let next = field_bits words table.number_bits (first_number table entries) in (
      number ++ own,
      next ++ rest,
      ap (λ (t : List Bool). number ++ t) whole ∙ sym (append_assoc number own (next ++ rest)),
      entry_of_marks words table (words_from baselines entry.number (with_number entry.number base)) entry own marks,
      entries_of_after words table baselines base entries rest after,
    )

-- and each spelling is made so
pub after_of_entries : (words : List (List Bool)) (table : Layout) (baselines : Baselines) (base : List EntityState) (entries : List Entered) (text : List Bool) → SpellsEntries words table baselines base entries text
    → (after : List Bool) × SpellsAfter words table baselines base entries after × (text ≡ field_bits words table.number_bits (first_number table entries) ++ after)
after_of_entries words table baselines base [] text s = ([], refl, s ∙ sym (append-nil (field_bits words table.number_bits (end_mark table))))
after_of_entries words table baselines base (entry ∷ entries) text (first, others, whole, spelled, more) =
    let marks = marks_of_entry words table (words_from baselines entry.number (with_number entry.number base)) entry first spelled in
    let after = after_of_entries words table baselines base entries others more in
    let number = field_bits words table.number_bits entry.number in
    let next = field_bits words table.number_bits (first_number table entries) in (
      marks.0 ++ (next ++ after.0),
      (marks.0, after.0, refl, marks.1, after.1),
      whole ∙ ap (λ (t : List Bool). t ++ others) marks.2 ∙ append_assoc number marks.0 others ∙ ap (λ (t : List Bool). number ++ (marks.0 ++ t)) after.2,
    )

-- an entry, the number after it, and what follows that number, as one text
pub rest_texts : (bits own number others left after rest : List Bool) → bits ≡ own ++ left → left ≡ number ++ after → after ≡ others ++ rest → bits ≡ (own ++ (number ++ others)) ++ rest
rest_texts bits own number others left after rest first second third = rw (first, second, third) (simp append_assoc)
