-- A move's time: what is written spells it, what is read was spelled so, and what is spelled so is read.
use Rattle.std.proofs.Common.{◌≡◌, ◌<◌, ◌+◌, ◌%◌, ◌^◌, ℕ, Bool, eqb, cond, ltb, List, [], ◌∷◌, ◌++◌, Ok, refl, ap, subst, ◌∙◌, arith, inl, inr}
use Rattle.std.proofs.lemmas.Bool.{cases_Bool, eqb-true, eqb-false}
use Rattle.std.proofs.lemmas.Bool.Decides.{nat_tests}
use Rattle.q3_bits.specs.ResultBind.{◌>>=◌}
use Rattle.q3_bits.proofs.Binds.{bind_ok}
use Rattle.q3_bits.specs.Words.{IsCode, row_bits, field_at}
use Rattle.q3_bits.specs.Laws.{PutIsRead, ReadWasPut}
use Rattle.q3_strings.proofs.FieldRows.{row-none, field_was_put, row-first, row-last}
use Rattle.q3_clmsg.specs.Moves.{time_since, time_bits, time_at}
use Rattle.q3_clmsg.specs.Spelling.{SpellsTime}

-- a time is as far after another as it says
far_enough : (from to : ℕ) → from < 2 ^ 32 → to < 2 ^ 32 → to ≡ (from + time_since from to) % 2 ^ 32
far_enough from to fits fits' = omega arith

pub time_is_spelled : (words : List (List Bool)) (from to : ℕ) → from < 2 ^ 32 → to < 2 ^ 32 → SpellsTime words from to (time_bits words from to)
time_is_spelled words from to fits fits' =
    elim (cases_Bool (ltb (time_since from to) 256)) [
      | inl near ↦
          let short : time_since from to < 256 = grind (arith, nat_tests) in
          rw near (inl (time_since from to, short, far_enough from to fits fits', refl))
      | inr far ↦ rw far (inr (fits', refl))
    ]

-- a time that was read
pub record ReadTime (words : List (List Bool)) (from : ℕ) (bits : List Bool) (found : ℕ × List Bool) : Type 0 where
  pub text : List Bool
  pub spells : SpellsTime words from found.0 text
  pub fits : found.0 < 2 ^ 32
  pub parts : bits ≡ text ++ found.1

pub time_was_spelled : ReadWasPut → (words : List (List Bool)) → IsCode words → (from : ℕ) (bits : List Bool) (found : ℕ × List Bool) → time_at words from bits ≡ Ok found
    → ReadTime words from bits found
unfolding time_at
time_was_spelled put words code from bits found e =
    let near = bind_ok (field_at words 1 bits)
    (λ near. cond (eqb near.0 0) (field_at words 32 near.1) (field_at words 8 near.1 >>= λ difference. Ok ((from + difference.0) % 2 ^ 32, difference.1))) found e in
    let was = field_was_put put words 1 bits near.0 code near.1 in
    elim (cases_Bool (eqb near.0.0 0)) [
      | inl whole ↦
          let after = field_was_put put words 32 near.0.1 found code (rw whole at near.2) in
          record {
            text = row_bits words ((0, 1) ∷ (found.0, 32) ∷ []);
            spells = inr (after.fits, refl);
            fits = after.fits;
            parts =
                was.row ((found.0, 32) ∷ []) found.1 (after.row [] found.1 (row-none words found.1))
                ∙ ap (λ (mark : ℕ). row_bits words ((mark, 1) ∷ (found.0, 32) ∷ []) ++ found.1) (eqb-true near.0.0 0 whole);
          }
      | inr short ↦
          let difference = bind_ok (field_at words 8 near.0.1) (λ difference. Ok ((from + difference.0) % 2 ^ 32, difference.1)) found (rw short at near.2) in
          let after = field_was_put put words 8 near.0.1 difference.0 code difference.1 in
          let mark : near.0.0 ≡ 1 = omega (arith, was.fits, eqb-false near.0.0 0 short) in
          let made = difference.2 in
          let same : ((from + difference.0.0) % 2 ^ 32, difference.0.1) ≡ found = cc in
          subst (ReadTime words from bits) {x = ((from + difference.0.0) % 2 ^ 32, difference.0.1)} same (record {
            text = row_bits words ((1, 1) ∷ (difference.0.0, 8) ∷ []);
            spells = inl (difference.0.0, after.fits, refl, refl);
            fits = omega arith;
            parts =
                was.row ((difference.0.0, 8) ∷ []) difference.0.1 (after.row [] difference.0.1 (row-none words difference.0.1))
                ∙ ap (λ (mark : ℕ). row_bits words ((mark, 1) ∷ (difference.0.0, 8) ∷ []) ++ difference.0.1) mark;
          })
    ]

pub time_is_read : PutIsRead → (words : List (List Bool)) → IsCode words → (from to : ℕ) (text rest : List Bool) → SpellsTime words from to text
    → time_at words from (text ++ rest) ≡ Ok (to, rest)
unfolding time_at
time_is_read put words code from to text rest (inl (difference, short, is, whole)) =
    rw (whole, row-first words code put 1 1 ((difference, 8) ∷ []) rest (omega arith), row-last words code put difference 8 rest short, ← is) refl
time_is_read put words code from to text rest (inr (fits, whole)) =
    rw (whole, row-first words code put 0 1 ((to, 32) ∷ []) rest (omega arith)) (row-last words code put to 32 rest fits)
