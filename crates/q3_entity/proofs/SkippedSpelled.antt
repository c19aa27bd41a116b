-- A list that is passed over spells rising entries, each against the zero state, and what spells such entries is passed over.
use Rattle.std.proofs.Common.{◌≡◌, ℕ, zero, suc, ◌+◌, ◌≤◌, Bool, List, [], ◌∷◌, ◌++◌, replicate, Ok, refl, sym, ap, subst, ◌∙◌, append_assoc, arith, inl, inr}
use Rattle.std.proofs.lemmas.Bool.{cases_eq}
use Rattle.q3_bits.specs.ResultBind.{◌>>=◌}
use Rattle.q3_bits.proofs.Binds.{bind_ok, bind_is}
use Rattle.q3_bits.specs.Words.{IsCode, field_bits}
use Rattle.q3_bits.specs.Laws.{ReadWasPut, PutIsRead}
use Rattle.q3_fields.specs.Kinds.{Layout, IsTable, end_mark}
use Rattle.q3_fields.specs.States.{AreWords}
use Rattle.q3_fields.specs.Laws.{WordsReadAreSpelled, WordsSpelledAreRead}
use Rattle.q3_entity.specs.Entities.{zero_entity}
use Rattle.q3_entity.specs.Baselines.{no_baselines}
use Rattle.q3_entity.specs.Delta.{entity_at}
use Rattle.q3_entity.specs.Lists.{number_at}
use Rattle.q3_entity.specs.Walking.{skipped_at}
use Rattle.q3_entity.specs.Laws.{ZeroIsNormal, SkippedIsSpelled, SpelledIsSkipped}
use Rattle.q3_entity.specs.Spelling.{Entered, SpellsEntries, EntriesRise, words_there}
use Rattle.q3_entity.proofs.Results.{number_was_read, number_is_read}
use Rattle.q3_entity.proofs.Skipping.{skipped_from, skip_begins, skip_turns, skip_ends}
use Rattle.q3_entity.proofs.EntrySpelled.{SpellsMarks, marks_were_spelled, marks_are_read}
use Rattle.q3_entity.proofs.EntriesSpelled.{first_number, SpellsAfter, entries_of_after, after_of_entries, first-least, rest_texts}
use Rattle.q3_entity.proofs.ListWritten.{rise-weaker}
use Rattle.q3_entity.proofs.SetBaselines.{zeros_there}

-- the words of the zero state
abbrev zeros : List ℕ
zeros = replicate 64 0

zeros_are : (table : Layout) → ZeroIsNormal → IsTable table → AreWords 64 zeros
unfolding zero_entity
zeros_are table law is_table = (law table 0 is_table).0

-- ---- what was passed over was spelled so

-- what was passed over from a number on
record PassedOver (words : List (List Bool)) (table : Layout) (next : ℕ) (bits rest : List Bool) : Type 0 where
  entries : List Entered
  text : List Bool
  parts : bits ≡ text ++ rest
  first : first_number table entries ≡ next
  rise : EntriesRise (end_mark table) next entries
  spells : SpellsAfter words table no_baselines [] entries text

-- at the end mark nothing is left
passed_end : (words : List (List Bool)) (table : Layout) (next : ℕ) (bits rest : List Bool) → next ≡ end_mark table → skipped_from words table (next, bits) ≡ Ok (tt, rest)
    → PassedOver words table next bits rest
passed_end words table next bits rest last e =
    let ends = skip_ends words table next bits (omega arith) in
    let found : Unit {0} × List Bool = (tt, rest) in
    let same : (tt, bits) ≡ found = cc in
    record { entries = []; text = []; parts = ap (λ (x : Unit {0} × List Bool). x.1) same; first = sym last; rise = tt; spells = refl }

numbers_were_spelled : ReadWasPut → WordsReadAreSpelled → (words : List (List Bool)) (table : Layout) → IsCode words → IsTable table → AreWords 64 zeros
    → (left next : ℕ) (bits rest : List Bool) → next ≤ end_mark table → end_mark table ≤ left + next → skipped_from words table (next, bits) ≡ Ok (tt, rest)
    → PassedOver words table next bits rest
unfolding skipped_at
numbers_were_spelled put law words table code is_table are zero next bits rest high enough e = passed_end words table next bits rest (omega arith) e
numbers_were_spelled put law words table code is_table are (suc left) next bits rest high enough e =
    elim (cases_eq next (end_mark table)) [
      | inl last ↦ passed_end words table next bits rest last e
      | inr within ↦
          let turn = bind_ok (skipped_at words table zeros next bits) (skipped_from words table) (tt, rest) (sym (skip_turns words table next bits (omega arith)) ∙ e) in
          let more = turn.0 in
          let entry = bind_ok (entity_at words table zeros bits) (λ entry. number_at words table (next + 1) entry.1) more turn.1 in
          let marks = marks_were_spelled put law words table zeros bits entry.0 code is_table are entry.1 in
          let read = number_was_read put words table (next + 1) entry.0.1 more code entry.2 in
          let others = numbers_were_spelled put law words table code is_table are left more.0 more.1 rest read.1 (omega (arith, read.0)) turn.2 in
          let field = field_bits words table.number_bits more.0 in
          record {
            entries = record { number = next; words = words_there entry.0.0.0 entry.0.0.1 } ∷ others.entries;
            text = marks.text ++ (field ++ others.text);
            parts = rest_texts bits marks.text field others.text entry.0.1 more.1 rest marks.parts read.2 others.parts;
            first = refl;
            rise = (omega arith, omega arith, rise-weaker (end_mark table) more.0 (next + 1) others.entries read.0 others.rise);
            spells = (
              marks.text,
              others.text,
              ap (λ (n : ℕ). marks.text ++ (field_bits words table.number_bits n ++ others.text)) (sym others.first),
              subst (λ (from : List ℕ). SpellsMarks words table from (words_there entry.0.0.0 entry.0.0.1) marks.text) (sym (zeros_there next)) marks.spells,
              others.spells,
            );
          }
    ]

pub skipped_was_spelled : ReadWasPut → WordsReadAreSpelled → ZeroIsNormal → SkippedIsSpelled
skipped_was_spelled put law law' words table bits rest code is_table e =
    let first = bind_ok (number_at words table 0 bits) (skipped_from words table) (tt, rest) (sym (skip_begins words table bits) ∙ e) in
    let number = number_was_read put words table 0 bits first.0 code first.1 in
    let passed = numbers_were_spelled put law words table code is_table (zeros_are table law' is_table) (end_mark table) first.0.0 first.0.1 rest number.1 (omega arith) first.2 in
    let field = field_bits words table.number_bits first.0.0 in (
      field ++ passed.text,
      number.2 ∙ ap (λ (t : List Bool). field ++ t) passed.parts ∙ sym (append_assoc field passed.text rest),
      record {
        entries = passed.entries;
        rise = rise-weaker (end_mark table) first.0.0 0 passed.entries (omega arith) passed.rise;
        spells = subst (λ (n : ℕ). SpellsEntries words table no_baselines [] passed.entries (field_bits words table.number_bits n ++ passed.text)) passed.first
            (entries_of_after words table no_baselines [] passed.entries passed.text passed.spells);
      },
    )

-- ---- what is spelled so is passed over

entries_are_skipped : PutIsRead → WordsSpelledAreRead → (words : List (List Bool)) (table : Layout) → IsCode words → IsTable table → AreWords 64 zeros
    → (least : ℕ) (entries : List Entered) (text rest : List Bool) → EntriesRise (end_mark table) least entries → SpellsAfter words table no_baselines [] entries text
    → skipped_from words table (first_number table entries, text ++ rest) ≡ Ok (tt, rest)
unfolding skipped_at
entries_are_skipped put law words table code is_table are least [] text rest rise s =
    skip_ends words table (end_mark table) (text ++ rest) (omega arith) ∙ ap (λ (t : List Bool). Ok (tt, t ++ rest)) s
entries_are_skipped put law words table code is_table are least (entry ∷ entries) text rest rise (own, after, whole, marks, others) =
    let next = first_number table entries in
    let from_here = first-least table (entry.number + 1) entries (omega (arith, rise.1)) rise.2 in
    let field = field_bits words table.number_bits next in
    let took = marks_are_read put law words table zeros entry.words own (field ++ (after ++ rest)) code is_table are
    (subst (λ (from : List ℕ). SpellsMarks words table from entry.words own) (zeros_there entry.number) marks) in
    let parts : text ++ rest ≡ own ++ (field ++ (after ++ rest)) = rw whole (simp append_assoc) in
    let number = number_is_read put words table (entry.number + 1) next (after ++ rest) code from_here.0 from_here.1 in
    ap (λ (t : List Bool). skipped_from words table (entry.number, t)) parts
    ∙ skip_turns words table entry.number (own ++ (field ++ (after ++ rest))) rise.1
    ∙ bind_is (skipped_at words table zeros entry.number (own ++ (field ++ (after ++ rest)))) (skipped_from words table) (next, after ++ rest) _ (rw took.reads number)
    (entries_are_skipped put law words table code is_table are (entry.number + 1) entries after rest rise.2 others)

pub spelled_is_skipped : PutIsRead → WordsSpelledAreRead → ZeroIsNormal → SpelledIsSkipped
spelled_is_skipped put law law' words table text rest code is_table s =
    let after = after_of_entries words table no_baselines [] s.entries text s.spells in
    let first = first_number table s.entries in
    let from_here = first-least table 0 s.entries (omega arith) s.rise in
    let field = field_bits words table.number_bits first in
    let parts : text ++ rest ≡ field ++ (after.0 ++ rest) = ap (λ (t : List Bool). t ++ rest) after.2 ∙ append_assoc field after.0 rest in
    skip_begins words table (text ++ rest)
    ∙ ap (λ (t : List Bool). number_at words table 0 t >>= skipped_from words table) parts
    ∙ bind_is (number_at words table 0 (field ++ (after.0 ++ rest))) (skipped_from words table) (first, after.0 ++ rest) _
    (number_is_read put words table 0 first (after.0 ++ rest) code (omega arith) from_here.1)
    (entries_are_skipped put law words table code is_table (zeros_are table law' is_table) 0 s.entries after.0 rest s.rise after.1)
