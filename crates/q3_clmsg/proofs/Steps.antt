-- The signed fields of a move, and a move as its fields.
use Rattle.std.proofs.Common.{◌≡◌, ℕ, ◌+◌, ◌-◌, ◌^◌, ◌<◌, ◌≤◌, eqb, suc, false, List, [], ◌∷◌, ◌++◌, length, ℤ, pos, negsuc, refl, ap, ◌∙◌, arith, inl, inr}
use Rattle.std.specs.Int.{w8, cast_unsigned}
use Rattle.std.specs.List.{All}
use Rattle.std.proofs.lemmas.Bool.{cases_Bool}
use Rattle.std.proofs.lemmas.Bool.Decides.{nat_tests}
use Rattle.std.proofs.lemmas.Int.{ints}
use Rattle.std.proofs.lemmas.List.{length-append}
use Rattle.std.proofs.lemmas.List.Elements.{All-nil, All-cons, All-head, All-tail}
use Rattle.q3_clmsg.specs.declared.moves.Move.{Move}
use Rattle.q3_clmsg.specs.Moves.{IsStep, IsMove, AreFields, move_widths, fields_of, step_of, move_of, no_move}
use Rattle.q3_clmsg.proofs.Fields.{three_values}

-- ---- signed fields

-- a signed value of 8 bits other than -128 is given back by its bits
step_back : (value : ℤ) → IsStep value → step_of (cast_unsigned w8 value) ≡ value
step_back (pos n) is =
    let small : n ≤ 127 = omega (arith, ints) in
    let other : eqb n 128 ≡ false = grind (arith, nat_tests, small) in
    rw other (omega (arith, ints))
step_back (negsuc n) is =
    let small : n ≤ 126 = omega (arith, ints) in
    let other : eqb (256 - suc n) 128 ≡ false = grind (arith, nat_tests, small) in
    rw other (omega (arith, ints))

-- what is read of 8 bits is one
step_is : (field : ℕ) → field < 256 → IsStep (step_of field)
step_is field fits =
    elim (cases_Bool (eqb field 128)) [
      | inl here ↦ rw here (omega (arith, ints), omega (arith, ints))
      | inr other ↦
          let not_here : eqb field 128 ≡ false = other in
          rw other (grind (arith, ints, nat_tests, not_here), omega (arith, ints))
    ]

-- the bits of one fit
step_fits : (value : ℤ) → IsStep value → cast_unsigned w8 value < 256
step_fits (pos n) is = omega (arith, ints)
step_fits (negsuc n) is = omega (arith, ints)

-- ---- a move as its fields

-- what follows the angles
abbrev after_angles : Move → List ℕ
after_angles one = cast_unsigned w8 one.forward ∷ cast_unsigned w8 one.right ∷ cast_unsigned w8 one.up ∷ one.buttons ∷ one.weapon ∷ []

-- its fields fit their widths, as many as there are
pub fields_are : (one : Move) → IsMove one → AreFields move_widths (fields_of one)
fields_are one is = go one.angles is.three is.angles
  where
    go : (angles : List ℕ) → length angles ≡ 3 → All (λ angle. angle < 2 ^ 16) angles → AreFields move_widths (angles ++ after_angles one)
    go (a ∷ b ∷ c ∷ []) three each =
        let after = All-tail (λ (angle : ℕ). angle < 2 ^ 16) a (b ∷ c ∷ []) each in
        let last = All-tail (λ (angle : ℕ). angle < 2 ^ 16) b (c ∷ []) after in (
          All-head (λ (angle : ℕ). angle < 2 ^ 16) a (b ∷ c ∷ []) each,
          (
            All-head (λ (angle : ℕ). angle < 2 ^ 16) b (c ∷ []) after,
            (
              All-head (λ (angle : ℕ). angle < 2 ^ 16) c [] last,
              (step_fits one.forward is.forward, (step_fits one.right is.right, (step_fits one.up is.up, (is.buttons, (is.weapon, tt))))),
            ),
          ),
        )
    go angles three each = absurd (omega (arith, three))

pub fields_long : (one : Move) → IsMove one → length (fields_of one) ≡ length move_widths
fields_long one is = length-append one.angles (after_angles one) ∙ ap (λ (n : ℕ). n + 5) is.three

-- they give it back, with any time
pub fields_back : (time : ℕ) (one : Move) → IsMove one → move_of time (fields_of one) ≡ record one { time = time }
fields_back time one is =
    let three = three_values one.angles is.three in
    ap (λ (angles : List ℕ). move_of time (angles ++ after_angles one)) three
    ∙ rw (step_back one.forward is.forward, step_back one.right is.right, step_back one.up is.up) (rw (← three) refl)

-- fields that fit give a move
pub fields_give : (time : ℕ) (fields : List ℕ) → time < 2 ^ 32 → AreFields move_widths fields → length fields ≡ length move_widths → IsMove (move_of time fields)
fields_give time (a ∷ b ∷ c ∷ forward ∷ right ∷ up ∷ buttons ∷ weapon ∷ []) fits are long = record {
  time = fits;
  three = refl;
  angles = All-cons (λ angle. angle < 2 ^ 16) a (b ∷ c ∷ []) are.0 (All-cons (λ angle. angle < 2 ^ 16) b (c ∷ []) are.1.0 (All-cons (λ angle. angle < 2 ^ 16) c [] are.1.1.0 (All-nil (λ (angle : ℕ). angle < 2 ^ 16))));
  forward = step_is forward are.1.1.1.0;
  right = step_is right are.1.1.1.1.0;
  up = step_is up are.1.1.1.1.1.0;
  buttons = are.1.1.1.1.1.1.0;
  weapon = are.1.1.1.1.1.1.1.0;
}
fields_give time fields fits are long = absurd (omega (arith, long))

-- at its time
pub move_time : (time : ℕ) (fields : List ℕ) → length fields ≡ length move_widths → (move_of time fields).time ≡ time
move_time time (a ∷ b ∷ c ∷ forward ∷ right ∷ up ∷ buttons ∷ weapon ∷ []) long = refl
move_time time fields long = absurd (omega (arith, long))

-- none is a move
pub none_is : IsMove no_move
none_is =
    let small : 0 < 2 ^ 16 = omega arith in
    let byte : 0 < 2 ^ 8 = omega arith in
    fields_give 0 (0 ∷ 0 ∷ 0 ∷ 0 ∷ 0 ∷ 0 ∷ 0 ∷ 0 ∷ []) (omega arith) (small, (small, (small, (byte, (byte, (byte, (small, (byte, tt)))))))) refl
