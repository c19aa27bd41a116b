-- The spellings of the fields: what is written is one of them, and a reader takes each of them and no other text.
use Rattle.std.proofs.Common.{◌≡◌, ◌≢◌, ◌⊎◌, ℕ, zero, suc, ◌^◌, ◌<◌, Bool, cond, eqb, ◌&&◌, List, [], ◌∷◌, ◌++◌, length, take, min, Result, Ok, refl, sym, ap, subst, ◌∙◌, append_assoc, add-one, arith, inl, inr}
use Rattle.std.proofs.lemmas.Bool.{cases_Bool, eqb-true, eqb-false, and_parts}
use Rattle.std.proofs.lemmas.List.{length-take}
use Rattle.std.proofs.lemmas.List.Elements.{All-cons, All-head, All-tail}
use Rattle.std.specs.List.{All}
use Rattle.q3_bits.specs.ResultBind.{◌>>=◌}
use Rattle.q3_bits.proofs.Binds.{bind_ok}
use Rattle.q3_bits.specs.Words.{IsCode, field_bits, field_at}
use Rattle.q3_bits.specs.Laws.{ReadWasPut, PutIsRead}
use Rattle.q3_bits.specs.declared.reader.ReadError.{ReadError}
use Rattle.q3_fields.specs.declared.kind.Kind.{Kind}
use Rattle.q3_fields.specs.declared.delta.StateKind.{StateKind}
use Rattle.q3_fields.specs.Kinds.{IsKind, norm}
use Rattle.q3_fields.specs.States.{normal_words}
use Rattle.q3_fields.specs.Deltas.{last_changed, changed_bits, changed_at, marked_field_bits, fields_bits, marked_field_at, fields_at}
use Rattle.q3_fields.specs.Spelling.{SpellsField, SpellsFields}
use Rattle.q3_fields.proofs.LastChanged.{last_changed-agrees}
use Rattle.q3_fields.proofs.Results.{answer_parts, bits_were_put, bits_were}
use Rattle.q3_fields.proofs.NormalWords.{normal_words-front}
use Rattle.q3_fields.proofs.Changed.{ChangedIsSpelled, ChangedWasSpelled, ChangedIsRead}

-- ---- a field

-- a field that is read was spelled so; it is what it was, or a normal word
pub record ReadField (state : StateKind) (words : List (List Bool)) (kind : Kind) (from : ℕ) (bits : List Bool) (found : ℕ × List Bool) : Type 0 where
  pub text : List Bool
  pub parts : bits ≡ text ++ found.1
  pub spells : SpellsField state words kind from found.0 text
  pub fits : from < 2 ^ 32 → found.0 < 2 ^ 32
  pub normal : norm kind from ≡ from → norm kind found.0 ≡ found.0

-- the field after a mark
abbrev marked_at : StateKind → List (List Bool) → Kind → ℕ → ℕ × List Bool → Result (ℕ × List Bool) ReadError
marked_at state words kind from mark = cond (eqb mark.0 0) (Ok (from, mark.1)) (changed_at state words kind mark.1)

marked_parts : (state : StateKind) (words : List (List Bool)) (kind : Kind) (from : ℕ) (mark found : ℕ × List Bool) → marked_at state words kind from mark ≡ Ok found
    → ((mark.0 ≡ 0) × (from ≡ found.0) × (mark.1 ≡ found.1)) ⊎ ((mark.0 ≢ 0) × (changed_at state words kind mark.1 ≡ Ok found))
marked_parts state words kind from mark found e =
    elim (cases_Bool (eqb mark.0 0)) [
      | inl none ↦
          let parts = answer_parts from found.0 mark.1 found.1 (rw none at e) in
          inl (eqb-true mark.0 0 none, parts.0, parts.1)
      | inr some ↦ inr (eqb-false mark.0 0 some, rw some at e)
    ]

field_was_spelled : ReadWasPut → ChangedWasSpelled → (state : StateKind) (words : List (List Bool)) → IsCode words → (kind : Kind) → IsKind kind → (from : ℕ) (bits : List Bool) (found : ℕ × List Bool)
    → marked_field_at state words kind from bits ≡ Ok found → ReadField state words kind from bits found
unfolding marked_field_at
field_was_spelled put law state words code kind allowed from bits found e =
    let mark = bind_ok (field_at words 1 bits) (marked_at state words kind from) found e in
    let bit = bits_were_put put words code 1 bits mark.0 mark.1 in
    elim (marked_parts state words kind from mark.0 found mark.2) [
      | inl none ↦ record {
        text = field_bits words 1 0;
        parts = bits_were words 1 bits mark.0 0 found.1 bit.1 none.0 none.2;
        spells = inl (sym none.1, refl);
        fits = subst (λ (word : ℕ). word < 2 ^ 32) none.1;
        normal = subst (λ (word : ℕ). norm kind word ≡ word) none.1;
      }
      | inr some ↦
          let one : mark.0.0 ≡ 1 = omega (arith, bit.0, some.0) in
          let read = law state words kind found.0 mark.0.1 found.1 code allowed some.1 in
          record {
            text = field_bits words 1 1 ++ read.2;
            parts = bits_were words 1 bits mark.0 1 (read.2 ++ found.1) bit.1 one read.3 ∙ sym (append_assoc (field_bits words 1 1) read.2 found.1);
            spells = inr (read.2, read.4, refl);
            fits = λ _. read.0;
            normal = λ _. read.1;
          }
    ]

-- a field that is spelled so is read
field_is_read : PutIsRead → ChangedIsRead → (state : StateKind) (words : List (List Bool)) → IsCode words → (kind : Kind) → IsKind kind → (from to : ℕ) (text rest : List Bool)
    → SpellsField state words kind from to text → marked_field_at state words kind from (text ++ rest) ≡ Ok (to, rest)
unfolding marked_field_at
field_is_read put law state words code kind allowed from to text rest (inl as_it_was) =
    rw (as_it_was.1, as_it_was.0, put words 1 0 rest code (omega arith)) refl
field_is_read put law state words code kind allowed from to text rest (inr changed) =
    rw (changed.2, append_assoc, put words 1 1 (changed.0 ++ rest) code (omega arith), law state words kind to changed.0 rest code allowed changed.1) refl

-- a field that is written spells the normal form of the word
field_is_spelled : ChangedIsSpelled → (state : StateKind) (words : List (List Bool)) (kind : Kind) → IsKind kind → (from to : ℕ) → to < 2 ^ 32 → norm kind from ≡ from
    → SpellsField state words kind from (norm kind to) (marked_field_bits state words kind from to)
field_is_spelled law state words kind allowed from to fits normal =
    elim (cases_Bool (eqb from to)) [
      | inl same ↦ rw same (inl (ap (norm kind) (sym (eqb-true from to same)) ∙ normal, refl))
      | inr differs ↦ rw differs (inr (changed_bits state words kind to, law state words kind to allowed fits, refl))
    ]

-- ---- the fields

abbrev Fits : ℕ → Type 0
Fits word = word < 2 ^ 32

-- fields that are read
pub record ReadFields (state : StateKind) (words : List (List Bool)) (kinds : List Kind) (from : List ℕ) (bits : List Bool) (found : List ℕ × List Bool) : Type 0 where
  pub text : List Bool
  pub parts : bits ≡ text ++ found.1
  pub spells : SpellsFields state words kinds from found.0 text
  pub fits : All (λ word. word < 2 ^ 32) from → All (λ word. word < 2 ^ 32) found.0
  pub long : length found.0 ≡ length from

-- none
none_was_spelled : (state : StateKind) (words : List (List Bool)) (from : List ℕ) (bits : List Bool) (found : List ℕ × List Bool) → from ≡ found.0 → bits ≡ found.1 → ReadFields state words [] from bits found
none_was_spelled state words from bits found same left = record {
  text = [];
  parts = left;
  spells = (sym same, refl);
  fits = subst (All Fits) same;
  long = ap length (sym same);
}

-- the fields after the first
abbrev others_at : StateKind → List (List Bool) → List Kind → List ℕ → ℕ × List Bool → Result (List ℕ × List Bool) ReadError
others_at state words kinds from first = fields_at state words kinds from first.1 >>= λ others. Ok (first.0 ∷ others.0, others.1)

-- were spelled so
pub fields_were_spelled : ReadWasPut → ChangedWasSpelled → (state : StateKind) (words : List (List Bool)) → IsCode words → (kinds : List Kind) → All IsKind kinds → (from : List ℕ) (bits : List Bool) (found : List ℕ × List Bool)
    → fields_at state words kinds from bits ≡ Ok found → ReadFields state words kinds from bits found
unfolding fields_at
fields_were_spelled put law state words code [] allowed from bits found e =
    let parts = answer_parts from found.0 bits found.1 e in
    none_was_spelled state words from bits found parts.0 parts.1
fields_were_spelled put law state words code (kind ∷ kinds) allowed [] bits found e =
    let parts = answer_parts [] found.0 bits found.1 e in
    record { text = []; parts = parts.1; spells = (sym parts.0, refl); fits = subst (All Fits) parts.0; long = ap length (sym parts.0) }
fields_were_spelled put law state words code (kind ∷ kinds) allowed (x ∷ from) bits found e =
    let first = bind_ok (marked_field_at state words kind x bits) (others_at state words kinds from) found e in
    let others = bind_ok (fields_at state words kinds from first.0.1) (λ others. Ok (first.0.0 ∷ others.0, others.1)) found first.2 in
    let parts = answer_parts (first.0.0 ∷ others.0.0) found.0 others.0.1 found.1 others.2 in
    let one = field_was_spelled put law state words code kind (All-head IsKind kind kinds allowed) x bits first.0 first.1 in
    let more = fields_were_spelled put law state words code kinds (All-tail IsKind kind kinds allowed) from first.0.1 others.0 others.1 in
    record {
      text = one.text ++ more.text;
      parts = one.parts ∙ ap (λ (rest : List Bool). one.text ++ rest) (more.parts ∙ ap (λ (rest : List Bool). more.text ++ rest) parts.1) ∙ sym (append_assoc one.text more.text found.1);
      spells = (first.0.0, others.0.0, one.text, more.text, sym parts.0, refl, one.spells, more.spells);
      fits = λ all. subst (All Fits) parts.0 (All-cons Fits first.0.0 others.0.0 (one.fits (All-head Fits x from all)) (more.fits (All-tail Fits x from all)));
      long = ap length (sym parts.0) ∙ ap suc more.long;
    }

-- fields that are read over normal words are normal
pub fields_are_normal : ReadWasPut → ChangedWasSpelled → (state : StateKind) (words : List (List Bool)) → IsCode words → (count : ℕ) (table : List Kind) → All IsKind table → (from : List ℕ) (bits : List Bool) (found : List ℕ × List Bool)
    → fields_at state words (take count table) from bits ≡ Ok found → normal_words table from ≡ from → normal_words table found.0 ≡ found.0
unfolding fields_at normal_words
fields_are_normal put law state words code zero table allowed from bits found e normal =
    let parts = answer_parts from found.0 bits found.1 e in
    subst (λ (xs : List ℕ). normal_words table xs ≡ xs) parts.0 normal
fields_are_normal put law state words code (suc count) [] allowed from bits found e normal =
    let parts = answer_parts from found.0 bits found.1 e in
    subst (λ (xs : List ℕ). normal_words [] xs ≡ xs) parts.0 normal
fields_are_normal put law state words code (suc count) (kind ∷ table) allowed [] bits found e normal =
    let parts = answer_parts [] found.0 bits found.1 e in
    subst (λ (xs : List ℕ). normal_words (kind ∷ table) xs ≡ xs) parts.0 normal
fields_are_normal put law state words code (suc count) (kind ∷ table) allowed (x ∷ from) bits found e normal =
    let here : norm kind x ≡ x = cc in
    let after : normal_words table from ≡ from = cc in
    let first = bind_ok (marked_field_at state words kind x bits) (others_at state words (take count table) from) found e in
    let others = bind_ok (fields_at state words (take count table) from first.0.1) (λ others. Ok (first.0.0 ∷ others.0, others.1)) found first.2 in
    let parts = answer_parts (first.0.0 ∷ others.0.0) found.0 others.0.1 found.1 others.2 in
    let one = field_was_spelled put law state words code kind (All-head IsKind kind table allowed) x bits first.0 first.1 in
    let more = fields_are_normal put law state words code count table (All-tail IsKind kind table allowed) from first.0.1 others.0 others.1 after in
    subst (λ (xs : List ℕ). normal_words (kind ∷ table) xs ≡ xs) parts.0 (rw (one.normal here, more) refl)

-- fields that are spelled so are read
pub fields_are_read : PutIsRead → ChangedIsRead → (state : StateKind) (words : List (List Bool)) → IsCode words → (kinds : List Kind) → All IsKind kinds → (from to : List ℕ) (text rest : List Bool)
    → SpellsFields state words kinds from to text → fields_at state words kinds from (text ++ rest) ≡ Ok (to, rest)
unfolding fields_at
fields_are_read put law state words code [] allowed from to text rest s = rw (s.0, s.1) refl
fields_are_read put law state words code (kind ∷ kinds) allowed [] to text rest s = rw (s.0, s.1) refl
fields_are_read put law state words code (kind ∷ kinds) allowed (x ∷ from) to text rest s =
    rw (
      s.4,
      s.5,
      append_assoc,
      field_is_read put law state words code kind (All-head IsKind kind kinds allowed) x s.0 s.2 (s.3 ++ rest) s.6,
      fields_are_read put law state words code kinds (All-tail IsKind kind kinds allowed) from s.1 s.3 rest s.7,
    ) refl

-- as many words of two states
pub fronts : (count : ℕ) (from to : List ℕ) → length from ≡ length to → length (take count from) ≡ length (take count to)
fronts count from to long = simp length-take (ap (min count) long)

-- fields that are written against normal ones spell the normal form, and the words after them are as they were
pub fields_are_spelled : ChangedIsSpelled → (state : StateKind) (words : List (List Bool)) (table : List Kind) → All IsKind table → (from to : List ℕ) → length from ≡ length to
    → All (λ word. word < 2 ^ 32) to → normal_words table from ≡ from
    → SpellsFields state words (take (last_changed (take (length table) from) (take (length table) to)) table) from (normal_words table to)
    (fields_bits state words (take (last_changed (take (length table) from) (take (length table) to)) table) from to)
unfolding last_changed fields_bits normal_words
fields_are_spelled law state words [] allowed from to long fits normal =
    (sym (normal_words-front [] from to long refl) ∙ normal, refl)
fields_are_spelled law state words (kind ∷ table) allowed [] [] long fits normal = (refl, refl)
fields_are_spelled law state words (kind ∷ table) allowed [] (y ∷ to) long fits normal = absurd (omega arith)
fields_are_spelled law state words (kind ∷ table) allowed (x ∷ from) [] long fits normal = absurd (omega arith)
fields_are_spelled law state words (kind ∷ table) allowed (x ∷ from) (y ∷ to) long fits normal =
    let here : norm kind x ≡ x = cc in
    let after : normal_words table from ≡ from = cc in
    let as_long : length from ≡ length to = omega arith in
    let old = take (length table) from in
    let new = take (length table) to in
    elim (cases_Bool (eqb (last_changed old new) 0 && eqb x y)) [
      | inl none ↦
          let both = and_parts (eqb (last_changed old new) 0) (eqb x y) none in
          let agree : old ≡ new = rw (eqb-true (last_changed old new) 0 both.0) at (last_changed-agrees old new (fronts (length table) from to as_long)) in
          let others : normal_words table to ≡ from = sym (normal_words-front table from to as_long agree) ∙ after in
          rw none (rw (← eqb-true x y both.1, here, others) refl, refl)
      | inr some ↦
          rw (some, add-one) (
            norm kind y,
            normal_words table to,
            marked_field_bits state words kind x y,
            fields_bits state words (take (last_changed old new) table) from to,
            refl,
            refl,
            field_is_spelled law state words kind (All-head IsKind kind table allowed) x y (All-head Fits y to fits) here,
            fields_are_spelled law state words table (All-tail IsKind kind table allowed) from to as_long (All-tail Fits y to fits) after,
          )
    ]
