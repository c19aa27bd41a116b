-- The area: what is read was spelled so, and what is spelled so is read.
use Rattle.std.proofs.Common.{◌≡◌, ◌<◌, ◌≤◌, ℕ, Bool, false, cond, ltb, nat_lt, List, [], ◌∷◌, ◌++◌, length, Ok, Err, refl, sym, ap, ◌∙◌, arith, inl, inr}
use Rattle.std.specs.List.{All}
use Rattle.std.proofs.lemmas.Bool.{cases_Bool}
use Rattle.std.proofs.lemmas.Bool.Decides.{nat_tests}
use Rattle.q3_bits.specs.ResultBind.{fault_as}
use Rattle.q3_bits.proofs.Binds.{bind_ok, map_err_ok}
use Rattle.q3_bits.specs.Words.{IsCode, row_bits}
use Rattle.q3_bits.specs.Laws.{PutIsRead, ReadWasPut}
use Rattle.q3_strings.specs.Texts.{bytes_row}
use Rattle.q3_strings.specs.Reading.{string_bytes_at}
use Rattle.q3_strings.proofs.FieldRows.{row-none, row-last}
use Rattle.q3_strings.specs.Laws.{BytesWerePut, BytesAreRead}
use Rattle.q3_svmsg.specs.declared.error.Illegible.TheVariants.{Bits, Area}
use Rattle.q3_svmsg.specs.Reading.{field_read, area_at}
use Rattle.q3_svmsg.proofs.Fields.{field_was}

-- the area after its count
pub record ReadArea (words : List (List Bool)) (bits : List Bool) (found : List ℕ × List Bool) : Type 0 where
  pub short : length found.0 ≤ 32
  pub each : All (λ byte. byte < 256) found.0
  pub parts : bits ≡ row_bits words ((length found.0, 8) ∷ []) ++ (bytes_row words found.0 ++ found.1)

pub area_was_spelled : ReadWasPut → BytesWerePut → (words : List (List Bool)) → IsCode words → (bits : List Bool) (found : List ℕ × List Bool) → area_at words bits ≡ Ok found → ReadArea words bits found
unfolding area_at
area_was_spelled put bytes words code bits found e =
    let count = bind_ok (field_read words 8 bits) (λ count. cond (ltb 32 count.0) (Err (Area count.0)) (fault_as Bits (string_bytes_at words count.0 count.1))) found e in
    elim (cases_Bool (ltb 32 count.0.0)) [
      | inl many ↦ absurd (let wrong = rw many at count.2 in cc)
      | inr few ↦
          let was = field_was put words 8 bits count.0 code count.1 in
          let were = bytes words count.0.0 found.0 count.0.1 found.1 code (map_err_ok Bits (string_bytes_at words count.0.0 count.0.1) found (rw few at count.2)) in
          let short : count.0.0 ≤ 32 = grind (arith, nat_tests) in
          record {
            short = omega (arith, short, were.0);
            each = were.1;
            parts = was.row [] count.0.1 (row-none words count.0.1)
                ∙ ap (λ (n : ℕ). row_bits words ((n, 8) ∷ []) ++ count.0.1) (sym were.0)
                ∙ ap (λ (left : List Bool). row_bits words ((length found.0, 8) ∷ []) ++ left) were.2;
          }
    ]

pub area_is_read : PutIsRead → BytesAreRead → (words : List (List Bool)) → IsCode words → (area : List ℕ) (rest : List Bool) → All (λ byte. byte < 256) area → length area ≤ 32
    → area_at words (row_bits words ((length area, 8) ∷ []) ++ (bytes_row words area ++ rest)) ≡ Ok (area, rest)
unfolding area_at
area_is_read put bytes words code area rest each short =
    let few : nat_lt 32 (length area) ≡ false = grind (arith, nat_tests) in
    rw (row-last words code put (length area) 8 (bytes_row words area ++ rest) (omega arith), few, bytes words area rest code each) refl
