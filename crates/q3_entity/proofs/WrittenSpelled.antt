-- What is written of an entity is a spelling of its entry, and is read back.
use Rattle.std.proofs.Common.{◌≡◌, ◌≢◌, inl, inr, ℕ, ◌^◌, ◌<◌, Bool, true, false, List, [], ◌∷◌, ◌++◌, Some, Ok, refl, sym, ap, ◌∙◌, append_assoc, arith}
use Rattle.std.proofs.lemmas.Bool.{cases_eq, ne_eqb}
use Rattle.std.proofs.lemmas.List.{append-nil}
use Rattle.q3_bits.specs.Words.{IsCode, field_bits, field_at, row_bits}
use Rattle.q3_bits.specs.Laws.{PutIsRead}
use Rattle.q3_fields.specs.Kinds.{Layout, IsTable, end_mark}
use Rattle.q3_fields.specs.States.{AreWords, normal_words}
use Rattle.q3_fields.specs.Deltas.{changed_count, words_delta}
use Rattle.q3_fields.specs.declared.delta.StateKind.TheVariants.{Entity}
use Rattle.q3_fields.specs.Laws.{WordsAreSpelled, UnchangedIsNormal, WordsSpelledAreRead}
use Rattle.q3_entity.specs.declared.state.EntityState.{EntityState}
use Rattle.q3_entity.specs.declared.reading.Entry.{Entry}
use Rattle.q3_entity.specs.declared.reading.Entry.TheVariants.{Changed, Same}
use Rattle.q3_entity.specs.Entities.{zero_entity, IsNormal}
use Rattle.q3_entity.specs.Delta.{opening, removal, entity_delta, entry_of, entity_at}
use Rattle.q3_entity.specs.Spelling.{Entered, SpellsEntry}
use Rattle.q3_entity.specs.Laws.{NormalIsNormal, ZeroIsNormal, EntityWrittenIsRead, RemovalIsRead}
use Rattle.q3_fields.specs.Laws.{NormalWordsAreNormal, ZerosAreNormal}
use Rattle.q3_entity.proofs.DeltaTexts.{entity_delta-changed, entity_delta-unchanged}
use Rattle.q3_entity.proofs.EntrySpelled.{same_is_read, changed_is_read}

-- ---- normal forms

pub normal_is_normal : NormalWordsAreNormal → NormalIsNormal
normal_is_normal law table entity is_table are =
    let h = law table.kinds entity.words is_table.kinds are in
    (h.0, ap (λ (words : List ℕ). record entity { words = words }) h.1)

pub zero_is_normal : ZerosAreNormal → ZeroIsNormal
unfolding zero_entity
zero_is_normal law table number is_table =
    let h = law table.kinds is_table.kinds in
    (h.0, ap (λ (words : List ℕ). record (zero_entity number) { words = words }) h.1)

-- ---- spellings

-- the entry of an entity that there is now
abbrev pub present : Layout → ℕ → EntityState → Entered
present table number to = record { number = number; words = Some (normal_words table.kinds to.words) }

-- where it changed
pub changed_is_spelled : WordsAreSpelled → (words : List (List Bool)) (table : Layout) (number : ℕ) (from to : EntityState) (force : Bool) → IsCode words → IsTable table
    → AreWords 64 from.words → IsNormal table from → AreWords 64 to.words → to.number ≡ number → changed_count table.kinds from.words to.words ≢ 0
    → SpellsEntry words table from.words (present table number to) (entity_delta words table from to force)
unfolding words_delta
changed_is_spelled law words table number from to force code is_table are normal are' is some =
    let delta = words_delta Entity words table.kinds from.words to.words in
    inr (inr (
      normal_words table.kinds to.words,
      delta,
      refl,
      law Entity words table.kinds from.words to.words code is_table.kinds are (ap (λ (e : EntityState). e.words) normal) are',
      entity_delta-changed words table from to force some ∙ ap (λ n. opening words table n ((0, 1) ∷ (1, 1) ∷ []) ++ delta) is,
    ))

-- and by force
pub forced_is_spelled : WordsAreSpelled → UnchangedIsNormal → (words : List (List Bool)) (table : Layout) (number : ℕ) (from to : EntityState) → IsCode words → IsTable table
    → AreWords 64 from.words → IsNormal table from → AreWords 64 to.words → to.number ≡ number
    → SpellsEntry words table from.words (present table number to) (entity_delta words table from to true)
forced_is_spelled law same words table number from to code is_table are normal are' is =
    elim (cases_eq (changed_count table.kinds from.words to.words) 0) [
      | inl none ↦
          inr (inl (
            ap (λ (ws : List ℕ). Some ws) (same table.kinds from.words to.words is_table.kinds are (ap (λ (e : EntityState). e.words) normal) are' none),
            entity_delta-unchanged words table from to true none ∙ ap (λ n. opening words table n ((0, 1) ∷ (0, 1) ∷ [])) is,
          ))
      | inr some ↦ changed_is_spelled law words table number from to true code is_table are normal are' is some
    ]

-- ---- what is written is read back

-- a text after a number
record IsAfter (words : List (List Bool)) (table : Layout) (from : EntityState) (number : ℕ) (text rest : List Bool) (found : Entry × List ℕ) : Type 0 where
  left : List Bool
  number_is : field_at words table.number_bits (text ++ rest) ≡ Ok (number, left)
  reads : entity_at words table from.words left ≡ Ok (found, rest)

after_number : PutIsRead → (words : List (List Bool)) (table : Layout) (from : EntityState) (number : ℕ) (text own rest : List Bool) (found : Entry × List ℕ) → IsCode words
    → number < end_mark table → text ≡ field_bits words table.number_bits number ++ own → entity_at words table from.words (own ++ rest) ≡ Ok (found, rest)
    → IsAfter words table from number text rest found
after_number put words table from number text own rest found code within is read = record {
  left = own ++ rest;
  number_is =
      ap (λ (text : List Bool). field_at words table.number_bits (text ++ rest)) is
      ∙ ap (field_at words table.number_bits) (append_assoc (field_bits words table.number_bits number) own rest)
      ∙ put words table.number_bits number (own ++ rest) code (omega (arith, within));
  reads = read;
}

-- an entity that didn't change, which is written by force alone
same_after : PutIsRead → UnchangedIsNormal → (words : List (List Bool)) (table : Layout) (from to : EntityState) (force : Bool) (rest : List Bool) → IsCode words → IsTable table
    → AreWords 64 from.words → IsNormal table from → AreWords 64 to.words → to.number < end_mark table → entity_delta words table from to force ≢ []
    → changed_count table.kinds from.words to.words ≡ 0
    → IsAfter words table from to.number (entity_delta words table from to force) rest (entry_of table from to, normal_words table.kinds to.words)
unfolding row_bits
same_after put same words table from to true rest code is_table are normal are' within some none =
    let words_are = same table.kinds from.words to.words is_table.kinds are (ap (λ (e : EntityState). e.words) normal) are' none in
    let kind : Same ≡ entry_of table from to = rw none refl in
    after_number put words table from to.number _ (field_bits words 1 0 ++ field_bits words 1 0) rest (entry_of table from to, normal_words table.kinds to.words) code within
    (entity_delta-unchanged words table from to true none ∙ simp append-nil)
    (same_is_read put words table from.words rest code ∙ ap (λ (ws : List ℕ). Ok ((Same, ws), rest)) (sym words_are)
    ∙ ap (λ (kind : Entry). Ok ((kind, normal_words table.kinds to.words), rest)) kind)
same_after put same words table from to false rest code is_table are normal are' within some none = absurd (some (entity_delta-unchanged words table from to false none))

-- and one that did
changed_after : PutIsRead → WordsAreSpelled → WordsSpelledAreRead → (words : List (List Bool)) (table : Layout) (from to : EntityState) (force : Bool) (rest : List Bool) → IsCode words
    → IsTable table → AreWords 64 from.words → IsNormal table from → AreWords 64 to.words → to.number < end_mark table → changed_count table.kinds from.words to.words ≢ 0
    → IsAfter words table from to.number (entity_delta words table from to force) rest (entry_of table from to, normal_words table.kinds to.words)
unfolding row_bits words_delta
changed_after put law read words table from to force rest code is_table are normal are' within some =
    let delta = words_delta Entity words table.kinds from.words to.words in
    let kind : Changed ≡ entry_of table from to = rw (ne_eqb (changed_count table.kinds from.words to.words) 0 some) refl in
    after_number put words table from to.number _ (field_bits words 1 0 ++ field_bits words 1 1 ++ delta) rest (entry_of table from to, normal_words table.kinds to.words) code within
    (entity_delta-changed words table from to force some ∙ simp (append-nil, append_assoc))
    (changed_is_read put read words table from.words (normal_words table.kinds to.words) delta rest code is_table are
    (law Entity words table.kinds from.words to.words code is_table.kinds are (ap (λ (e : EntityState). e.words) normal) are')
    ∙ ap (λ (kind : Entry). Ok ((kind, normal_words table.kinds to.words), rest)) kind)

pub entity_is_read : PutIsRead → WordsAreSpelled → UnchangedIsNormal → WordsSpelledAreRead → EntityWrittenIsRead
entity_is_read put law same read words table from to force rest code is_table are normal are' within some =
    let after = elim (cases_eq (changed_count table.kinds from.words to.words) 0) as (λ _. IsAfter words table from to.number (entity_delta words table from to force) rest (entry_of table from to, normal_words table.kinds to.words)) [
      | inl none ↦ same_after put same words table from to force rest code is_table are normal are' within some none
      | inr changed ↦ changed_after put law read words table from to force rest code is_table are normal are' within changed
    ] in
    (after.left, after.number_is, after.reads)

-- a removal
removed_text : (words : List (List Bool)) (table : Layout) (number : ℕ) (rest : List Bool) → removal words table number ++ rest ≡ field_bits words table.number_bits number ++ (field_bits words 1 1 ++ rest)
unfolding removal row_bits
removed_text words table number rest = simp (append_assoc, append-nil)

pub removal_is_read : PutIsRead → RemovalIsRead
unfolding entity_at
removal_is_read put words table number from rest code is_table within =
    let fits : number < 2 ^ table.number_bits = omega (arith, within) in
    let after = field_bits words 1 1 ++ rest in (
      after,
      ap (field_at words table.number_bits) (removed_text words table number rest) ∙ put words table.number_bits number after code fits,
      rw (put words 1 1 rest code (omega arith)) refl,
    )
