-- The fields of a move: what is written spells them, what is read was spelled so, and what is spelled so is read.
use Rattle.std.proofs.Common.{◌≡◌, ◌⊎◌, ◌<◌, ◌^◌, ℕ, suc, Bool, eqb, cond, List, [], ◌∷◌, ◌++◌, length, Ok, refl, sym, ap, subst, ◌∙◌, append_assoc, arith, inl, inr}
use Rattle.std.proofs.lemmas.Bool.{cases_Bool, eqb-true, eqb-false}
use Rattle.q3_bits.specs.ResultBind.{◌>>=◌}
use Rattle.q3_bits.proofs.Binds.{bind_ok}
use Rattle.q3_bits.specs.Words.{IsCode, field_bits, row_bits, field_at}
use Rattle.q3_bits.specs.Laws.{PutIsRead, ReadWasPut}
use Rattle.q3_strings.proofs.FieldRows.{row-none, field_was_put, row-first, row-last}
use Rattle.q3_clmsg.specs.Moves.{AreFields, hidden, field_delta, fields_bits, field_over, fields_at}
use Rattle.q3_clmsg.specs.Spelling.{SpellsFields}
use Rattle.q3_clmsg.proofs.Keys.{hidden_fits, hidden_twice}

-- the text of one field over another: unmarked and as it was, or marked, and hidden
abbrev SpellsField : List (List Bool) → ℕ → ℕ → ℕ → ℕ → List Bool → Type 0
SpellsField words key width from to first =
    ((to ≡ from) × (first ≡ field_bits words 1 0)) ⊎ ((to < 2 ^ width) × (first ≡ row_bits words ((1, 1) ∷ (hidden key width to, width) ∷ [])))

-- ---- what is written

field_is_spelled : (words : List (List Bool)) (key width from to : ℕ) → to < 2 ^ width → SpellsField words key width from to (field_delta words key width from to)
field_is_spelled words key width from to fits =
    elim (cases_Bool (eqb from to)) [
      | inl same ↦ rw same (inl (sym (eqb-true from to same), refl))
      | inr other ↦ rw other (inr (fits, refl))
    ]

pub fields_are_spelled : (words : List (List Bool)) (key : ℕ) (widths from to : List ℕ) → length from ≡ length widths → length to ≡ length widths → AreFields widths to
    → SpellsFields words key widths from to (fields_bits words key widths from to)
unfolding fields_bits
fields_are_spelled words key [] [] [] long long' are = (refl, refl)
fields_are_spelled words key (width ∷ widths) (a ∷ from) (b ∷ to) long long' are = (
  b,
  to,
  field_delta words key width a b,
  fields_bits words key widths from to,
  refl,
  refl,
  field_is_spelled words key width a b are.0,
  fields_are_spelled words key widths from to (omega (arith, long)) (omega (arith, long')) are.1,
)
fields_are_spelled words key widths from to long long' are = absurd (omega (arith, long, long'))

-- ---- what is read

-- a field that was read over another
record ReadField (words : List (List Bool)) (key width from : ℕ) (bits : List Bool) (found : ℕ × List Bool) : Type 0 where
  text : List Bool
  spells : SpellsField words key width from found.0 text
  fits : found.0 < 2 ^ width
  parts : bits ≡ text ++ found.1

field_was_spelled : ReadWasPut → (words : List (List Bool)) → IsCode words → (key width from : ℕ) (bits : List Bool) (found : ℕ × List Bool) → from < 2 ^ width
    → field_over words key width from bits ≡ Ok found → ReadField words key width from bits found
field_was_spelled put words code key width from bits found old e =
    let changed = bind_ok (field_at words 1 bits)
    (λ changed. cond (eqb changed.0 0) (Ok (from, changed.1)) (field_at words width changed.1 >>= λ field. Ok (hidden key width field.0, field.1))) found e in
    elim (cases_Bool (eqb changed.0.0 0)) [
      | inl same ↦
          let was = put words 1 changed.0.0 bits changed.0.1 code changed.1 in
          let made = rw same at changed.2 in
          let is : (from, changed.0.1) ≡ found = cc in
          subst (ReadField words key width from bits) {x = (from, changed.0.1)} is (record {
            text = field_bits words 1 0;
            spells = inl (refl, refl);
            fits = old;
            parts = was.1 ∙ ap (λ (mark : ℕ). field_bits words 1 mark ++ changed.0.1) (eqb-true changed.0.0 0 same);
          })
      | inr other ↦
          let was = field_was_put put words 1 bits changed.0 code changed.1 in
          let field = bind_ok (field_at words width changed.0.1) (λ field. Ok (hidden key width field.0, field.1)) found (rw other at changed.2) in
          let after = field_was_put put words width changed.0.1 field.0 code field.1 in
          let mark : changed.0.0 ≡ 1 = omega (arith, was.fits, eqb-false changed.0.0 0 other) in
          let fits = hidden_fits key width field.0.0 after.fits in
          let made = field.2 in
          let is : (hidden key width field.0.0, field.0.1) ≡ found = cc in
          subst (ReadField words key width from bits) {x = (hidden key width field.0.0, field.0.1)} is (record {
            text = row_bits words ((1, 1) ∷ (field.0.0, width) ∷ []);
            spells = inr (fits, ap (λ (value : ℕ). row_bits words ((1, 1) ∷ (value, width) ∷ [])) (sym (hidden_twice key width field.0.0)));
            fits = fits;
            parts =
                was.row ((field.0.0, width) ∷ []) field.0.1 (after.row [] field.0.1 (row-none words field.0.1))
                ∙ ap (λ (mark : ℕ). row_bits words ((mark, 1) ∷ (field.0.0, width) ∷ []) ++ field.0.1) mark;
          })
    ]

-- fields that were read over others
pub record ReadFields (words : List (List Bool)) (key : ℕ) (widths from : List ℕ) (bits : List Bool) (found : List ℕ × List Bool) : Type 0 where
  pub text : List Bool
  pub spells : SpellsFields words key widths from found.0 text
  pub are : AreFields widths found.0
  pub long : length found.0 ≡ length widths
  pub parts : bits ≡ text ++ found.1

pub fields_were_spelled : ReadWasPut → (words : List (List Bool)) → IsCode words → (key : ℕ) (widths from : List ℕ) (bits : List Bool) (found : List ℕ × List Bool)
    → length from ≡ length widths → AreFields widths from → fields_at words key widths from bits ≡ Ok found → ReadFields words key widths from bits found
unfolding fields_at
fields_were_spelled put words code key [] [] bits found long are e =
    let is : ([], bits) ≡ found = cc in
    subst (ReadFields words key [] [] bits) {x = ([], bits)} is (record { text = []; spells = (refl, refl); are = tt; long = refl; parts = refl })
fields_were_spelled put words code key (width ∷ widths) (a ∷ from) bits found long are e =
    let field = bind_ok (field_over words key width a bits) (λ field. fields_at words key widths from field.1 >>= λ others. Ok (field.0 ∷ others.0, others.1)) found e in
    let others = bind_ok (fields_at words key widths from field.0.1) (λ others. Ok (field.0.0 ∷ others.0, others.1)) found field.2 in
    let was = field_was_spelled put words code key width a bits field.0 are.0 field.1 in
    let were = fields_were_spelled put words code key widths from field.0.1 others.0 (omega (arith, long)) are.1 others.1 in
    let made = others.2 in
    let is : (field.0.0 ∷ others.0.0, others.0.1) ≡ found = cc in
    subst (ReadFields words key (width ∷ widths) (a ∷ from) bits) {x = (field.0.0 ∷ others.0.0, others.0.1)} is (record {
      text = was.text ++ were.text;
      spells = (field.0.0, others.0.0, was.text, were.text, refl, refl, was.spells, were.spells);
      are = (was.fits, were.are);
      long = ap (λ (n : ℕ). suc n) were.long;
      parts = was.parts ∙ ap (λ (left : List Bool). was.text ++ left) were.parts ∙ sym (append_assoc was.text were.text others.0.1);
    })
fields_were_spelled put words code key widths from bits found long are e = absurd (omega (arith, long))

-- ---- what is spelled

field_is_read : PutIsRead → (words : List (List Bool)) → IsCode words → (key width from to : ℕ) (first rest : List Bool) → SpellsField words key width from to first
    → field_over words key width from (first ++ rest) ≡ Ok (to, rest)
field_is_read put words code key width from to first rest (inl (same, whole)) =
    rw (whole, put words 1 0 rest code (omega arith), ← same) refl
field_is_read put words code key width from to first rest (inr (fits, whole)) =
    rw (whole, row-first words code put 1 1 ((hidden key width to, width) ∷ []) rest (omega arith), row-last words code put (hidden key width to) width rest (hidden_fits key width to fits), hidden_twice key width to) refl

pub fields_are_read : PutIsRead → (words : List (List Bool)) → IsCode words → (key : ℕ) (widths from to : List ℕ) (text rest : List Bool) → SpellsFields words key widths from to text
    → fields_at words key widths from (text ++ rest) ≡ Ok (to, rest)
unfolding fields_at
fields_are_read put words code key (width ∷ widths) (a ∷ from) to text rest (b, others, first, after, is, whole, one, more) =
    let same : text ++ rest ≡ first ++ (after ++ rest) = ap (λ (text : List Bool). text ++ rest) whole ∙ append_assoc first after rest in
    rw (same, field_is_read put words code key width a b first (after ++ rest) one, fields_are_read put words code key widths from others after rest more, is) refl
fields_are_read put words code key (width ∷ widths) [] to text rest (none, whole) = rw (none, whole) refl
fields_are_read put words code key [] from to text rest (none, whole) = rw (none, whole) refl
