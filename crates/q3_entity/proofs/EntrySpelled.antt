-- The spellings of what follows an entity's number: a reader takes each of them and no other text.
use Rattle.std.proofs.Common.{◌≡◌, ◌⊎◌, ℕ, ◌^◌, ◌<◌, Bool, false, cond, eqb, List, ◌++◌, Option, Some, None, Ok, refl, sym, ap, ◌∙◌, subst, append_assoc, arith, inl, inr}
use Rattle.std.proofs.lemmas.Bool.{cases_Bool, eqb-true, eqb-false}
use Rattle.std.proofs.lemmas.List.{append-nil}
use Rattle.q3_bits.proofs.Binds.{bind_ok, map_err_ok}
use Rattle.q3_bits.specs.Words.{IsCode, field_bits, field_at, row_bits}
use Rattle.q3_bits.specs.Laws.{ReadWasPut, PutIsRead}
use Rattle.q3_fields.specs.Kinds.{Layout, IsTable}
use Rattle.q3_fields.specs.States.{AreWords, normal_words}
use Rattle.q3_fields.specs.declared.delta.StateKind.TheVariants.{Entity}
use Rattle.q3_fields.specs.Deltas.{words_at}
use Rattle.q3_fields.specs.Spelling.{SpellsWords}
use Rattle.q3_fields.specs.Laws.{WordsReadAreSpelled, WordsSpelledAreRead}
use Rattle.q3_entity.specs.declared.reading.Entry.{Entry}
use Rattle.q3_entity.specs.declared.reading.Entry.TheVariants.{Removed, Changed, Same}
use Rattle.q3_entity.specs.Delta.{removal, entity_error, bits_read, words_read, delta_at, present_at, entity_at}
use Rattle.q3_entity.specs.declared.error.EntityError.TheVariants.{Bits}
use Rattle.q3_entity.specs.Spelling.{Entered, SpellsEntry, words_there}
use Rattle.q3_entity.specs.Laws.{EntryReadIsSpelled, EntrySpelledIsRead}

-- what follows the number of an entry
abbrev pub SpellsMarks : List (List Bool) → Layout → List ℕ → Option (List ℕ) → List Bool → Type 0
SpellsMarks words table from there text =
    ((there ≡ None) × (text ≡ field_bits words 1 1))
    ⊎ ((there ≡ Some from) × (text ≡ field_bits words 1 0 ++ field_bits words 1 0))
    ⊎ ((to : List ℕ) × (delta : List Bool) × (there ≡ Some to) × SpellsWords Entity words table.kinds from to delta
    × (text ≡ field_bits words 1 0 ++ field_bits words 1 1 ++ delta))

-- it makes an entry's text
pub entry_of_marks : (words : List (List Bool)) (table : Layout) (from : List ℕ) (entry : Entered) (text : List Bool) → SpellsMarks words table from entry.words text
    → SpellsEntry words table from entry (field_bits words table.number_bits entry.number ++ text)
unfolding removal row_bits
entry_of_marks words table from entry text (inl (gone, is)) = inl (gone, rw (is, append-nil) refl)
entry_of_marks words table from entry text (inr (inl (there, is))) = inr (inl (there, rw (is, append-nil) refl))
entry_of_marks words table from entry text (inr (inr (to, delta, there, spelled, is))) =
    inr (inr (to, delta, there, spelled, rw (is, append-nil) (simp append_assoc)))

-- and each is made so
pub marks_of_entry : (words : List (List Bool)) (table : Layout) (from : List ℕ) (entry : Entered) (text : List Bool) → SpellsEntry words table from entry text
    → (own : List Bool) × SpellsMarks words table from entry.words own × (text ≡ field_bits words table.number_bits entry.number ++ own)
unfolding removal row_bits
marks_of_entry words table from entry text (inl (gone, is)) = (field_bits words 1 1, inl (gone, refl), rw (is, append-nil) refl)
marks_of_entry words table from entry text (inr (inl (there, is))) = (field_bits words 1 0 ++ field_bits words 1 0, inr (inl (there, refl)), rw (is, append-nil) refl)
marks_of_entry words table from entry text (inr (inr (to, delta, there, spelled, is))) =
    (field_bits words 1 0 ++ field_bits words 1 1 ++ delta, inr (inr (to, delta, there, spelled, refl)), rw (is, append-nil) (simp append_assoc))

-- an entry that was read
pub record ReadMarks (words : List (List Bool)) (table : Layout) (from : List ℕ) (bits : List Bool) (found : (Entry × List ℕ) × List Bool) : Type 0 where
  pub text : List Bool
  pub parts : bits ≡ text ++ found.1
  pub spells : SpellsMarks words table from (words_there found.0.0 found.0.1) text
  pub are : AreWords 64 found.0.1
  pub normal : normal_words table.kinds from ≡ from → normal_words table.kinds found.0.1 ≡ found.0.1

-- the text of a bit that was read, and what follows it
bit_was : ReadWasPut → (words : List (List Bool)) (bits : List Bool) (found : ℕ × List Bool) (value : ℕ) → IsCode words → field_at words 1 bits ≡ Ok found → found.0 ≡ value
    → bits ≡ field_bits words 1 value ++ found.1
bit_was law words bits found value code e is = rw (← is) (law words 1 found.0 bits found.1 code e).1

-- a bit that is not 0
bit_one : ReadWasPut → (words : List (List Bool)) (bits : List Bool) (found : ℕ × List Bool) → IsCode words → field_at words 1 bits ≡ Ok found → eqb found.0 0 ≡ false → found.0 ≡ 1
bit_one law words bits found code e other =
    let fits : found.0 < 2 ^ 1 = (law words 1 found.0 bits found.1 code e).0 in
    omega (arith, fits, eqb-false found.0 0 other)

-- two texts, and what follows them
two_texts : (bits one two left rest : List Bool) → bits ≡ one ++ left → left ≡ two ++ rest → bits ≡ (one ++ two) ++ rest
two_texts bits one two left rest a b = rw (a, b, append_assoc) refl

three_texts : (bits one two three left left' rest : List Bool) → bits ≡ one ++ left → left ≡ two ++ left' → left' ≡ three ++ rest → bits ≡ (one ++ two ++ three) ++ rest
three_texts bits one two three left left' rest a b c = rw (a, b, c) (simp append_assoc)

-- was spelled so
pub marks_were_spelled : ReadWasPut → WordsReadAreSpelled → (words : List (List Bool)) (table : Layout) (from : List ℕ) (bits : List Bool) (found : (Entry × List ℕ) × List Bool) → IsCode words
    → IsTable table → AreWords 64 from → entity_at words table from bits ≡ Ok found → ReadMarks words table from bits found
unfolding entity_at
marks_were_spelled put law words table from bits found code is_table are e =
    let mark = bind_ok (bits_read (field_at words 1 bits)) (λ removed. cond (eqb removed.0 0) (present_at words table from removed.1) (Ok ((Removed, from), removed.1))) found e in
    let reads = map_err_ok Bits (field_at words 1 bits) mark.0 mark.1 in
    elim (cases_Bool (eqb mark.0.0 0)) [
      | inr gone ↦
          let made = rw gone at mark.2 in
          let same : ((Removed, from), mark.0.1) ≡ found = cc in
          subst (ReadMarks words table from bits) {x = ((Removed, from), mark.0.1)} same (record {
            text = field_bits words 1 1;
            parts = bit_was put words bits mark.0 1 code reads (bit_one put words bits mark.0 code reads gone);
            spells = inl (refl, refl);
            are = are;
            normal = λ normal. normal;
          })
      | inl there ↦
          let first = bit_was put words bits mark.0 0 code reads (eqb-true mark.0.0 0 there) in
          let change = bind_ok (bits_read (field_at words 1 mark.0.1)) (λ changed. cond (eqb changed.0 0) (Ok ((Same, from), changed.1)) (delta_at words table from changed.1)) found (rw there at mark.2) in
          let reads' = map_err_ok Bits (field_at words 1 mark.0.1) change.0 change.1 in
          elim (cases_Bool (eqb change.0.0 0)) [
            | inl none ↦
                let made = rw none at change.2 in
                let same : ((Same, from), change.0.1) ≡ found = cc in
                let second = bit_was put words mark.0.1 change.0 0 code reads' (eqb-true change.0.0 0 none) in
                subst (ReadMarks words table from bits) {x = ((Same, from), change.0.1)} same (record {
                  text = field_bits words 1 0 ++ field_bits words 1 0;
                  parts = two_texts bits (field_bits words 1 0) (field_bits words 1 0) mark.0.1 change.0.1 first second;
                  spells = inr (inl (refl, refl));
                  are = are;
                  normal = λ normal. normal;
                })
            | inr some ↦
                let second = bit_was put words mark.0.1 change.0 1 code reads' (bit_one put words mark.0.1 change.0 code reads' some) in
                let delta = bind_ok (words_read (words_at Entity words table.kinds from change.0.1)) (λ read. Ok ((Changed, read.0), read.1)) found (rw some at change.2) in
                let spelled = law Entity words table.kinds from delta.0.0 change.0.1 delta.0.1 code is_table.kinds are (map_err_ok entity_error (words_at Entity words table.kinds from change.0.1) delta.0 delta.1) in
                let made = delta.2 in
                let same : ((Changed, delta.0.0), delta.0.1) ≡ found = cc in
                subst (ReadMarks words table from bits) {x = ((Changed, delta.0.0), delta.0.1)} same (record {
                  text = field_bits words 1 0 ++ field_bits words 1 1 ++ spelled.2;
                  parts = three_texts bits (field_bits words 1 0) (field_bits words 1 1) spelled.2 mark.0.1 change.0.1 delta.0.1 first second spelled.3;
                  spells = inr (inr (delta.0.0, spelled.2, refl, spelled.4, refl));
                  are = spelled.0;
                  normal = spelled.1;
                })
          ]
    ]

-- ---- what is spelled so is read

-- a removal
gone_is_read : PutIsRead → (words : List (List Bool)) (table : Layout) (from : List ℕ) (rest : List Bool) → IsCode words
    → entity_at words table from (field_bits words 1 1 ++ rest) ≡ Ok ((Removed, from), rest)
unfolding entity_at
gone_is_read put words table from rest code = rw (put words 1 1 rest code (omega arith)) refl

-- an entity that is the same
pub same_is_read : PutIsRead → (words : List (List Bool)) (table : Layout) (from : List ℕ) (rest : List Bool) → IsCode words
    → entity_at words table from ((field_bits words 1 0 ++ field_bits words 1 0) ++ rest) ≡ Ok ((Same, from), rest)
unfolding entity_at
same_is_read put words table from rest code =
    rw (append_assoc (field_bits words 1 0) (field_bits words 1 0) rest, put words 1 0 (field_bits words 1 0 ++ rest) code (omega arith), put words 1 0 rest code (omega arith)) refl

-- and one that changed
pub changed_is_read : PutIsRead → WordsSpelledAreRead → (words : List (List Bool)) (table : Layout) (from to : List ℕ) (delta rest : List Bool) → IsCode words → IsTable table → AreWords 64 from
    → SpellsWords Entity words table.kinds from to delta
    → entity_at words table from ((field_bits words 1 0 ++ field_bits words 1 1 ++ delta) ++ rest) ≡ Ok ((Changed, to), rest)
unfolding entity_at
changed_is_read put law words table from to delta rest code is_table are spelled =
    let whole : (field_bits words 1 0 ++ field_bits words 1 1 ++ delta) ++ rest ≡ field_bits words 1 0 ++ (field_bits words 1 1 ++ (delta ++ rest)) = simp append_assoc in
    rw (
      whole,
      put words 1 0 (field_bits words 1 1 ++ (delta ++ rest)) code (omega arith),
      put words 1 1 (delta ++ rest) code (omega arith),
      law Entity words table.kinds from to delta rest code is_table.kinds are spelled,
    ) refl

-- an entry that is spelled so
pub record TakenMarks (words : List (List Bool)) (table : Layout) (from : List ℕ) (there : Option (List ℕ)) (text rest : List Bool) : Type 0 where
  pub kind : Entry
  pub to : List ℕ
  pub is : words_there kind to ≡ there
  pub reads : entity_at words table from (text ++ rest) ≡ Ok ((kind, to), rest)

-- is read
pub marks_are_read : PutIsRead → WordsSpelledAreRead → (words : List (List Bool)) (table : Layout) (from : List ℕ) (there : Option (List ℕ)) (text rest : List Bool) → IsCode words
    → IsTable table → AreWords 64 from → SpellsMarks words table from there text → TakenMarks words table from there text rest
marks_are_read put law words table from there text rest code is_table are (inl (gone, is)) =
    record { kind = Removed; to = from; is = sym gone; reads = rw is (gone_is_read put words table from rest code) }
marks_are_read put law words table from there text rest code is_table are (inr (inl (same, is))) =
    record { kind = Same; to = from; is = sym same; reads = rw is (same_is_read put words table from rest code) }
marks_are_read put law words table from there text rest code is_table are (inr (inr (to, delta, changed, spelled, is))) =
    record { kind = Changed; to = to; is = sym changed; reads = rw is (changed_is_read put law words table from to delta rest code is_table are spelled) }

-- ---- and after its number

pub entry_was_spelled : ReadWasPut → WordsReadAreSpelled → EntryReadIsSpelled
entry_was_spelled put law words table from to kind number bits rest code is_table are e =
    let read = marks_were_spelled put law words table from bits ((kind, to), rest) code is_table are e in
    let entry : Entered = record { number = number; words = words_there kind to } in
    (read.are, read.normal, read.text, read.parts, entry_of_marks words table from entry read.text read.spells)

pub entry_is_read : PutIsRead → WordsSpelledAreRead → EntrySpelledIsRead
entry_is_read put law words table from entry text rest code is_table are within s =
    let own = marks_of_entry words table from entry text s in
    let read = marks_are_read put law words table from entry.words own.0 rest code is_table are own.1 in
    let number = field_bits words table.number_bits entry.number in (
      own.0 ++ rest,
      read.kind,
      read.to,
      read.is,
      ap (λ (text : List Bool). field_at words table.number_bits (text ++ rest)) own.2
          ∙ ap (field_at words table.number_bits) (append_assoc number own.0 rest)
          ∙ put words table.number_bits entry.number (own.0 ++ rest) code (omega (arith, within)),
      read.reads,
    )
