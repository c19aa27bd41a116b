-- The readings of a clock that are left.
use Rattle.std.proofs.Common.{◌≡◌, ◌∙◌, ℕ, ◌+◌, ◌<◌, ◌≤◌, List, [], ◌∷◌, length, drop, zero, suc, refl, subst, arith}
use Rattle.std.specs.Prelude.{slice_index}
use Rattle.std.proofs.Math.Seq.{drop-drop}
use Rattle.std.proofs.lemmas.List.{length-drop}
use Rattle.q3_io.specs.Readings.{reading_of, readings_after, DontFall}

-- the first of them, and those after it: all of them, where it is the last
record Left (last : ℕ) (left : List ℕ) : Type 0 where
  later : last ≤ reading_of left
  more : 1 < length left → (readings_after left ≡ drop 1 left) × DontFall (reading_of left) (drop 1 left)
  none : length left ≤ 1 → (readings_after left ≡ left) × DontFall (reading_of left) left

left_of : (last : ℕ) (left : List ℕ) → 0 < length left → DontFall last left → Left last left
left_of last [] some rise = absurd (omega arith)
left_of last (one ∷ []) some rise = record { later = rise.0; more = λ lt. absurd (omega (arith, lt)); none = λ le. (refl, (omega arith, tt)) }
left_of last (one ∷ two ∷ others) some rise = record { later = rise.0; more = λ lt. (refl, rise.1); none = λ le. absurd (omega (arith, le)) }

reading_at : (place : ℕ) (readings : List ℕ) → reading_of (drop place readings) ≡ slice_index readings place
reading_at zero [] = refl
reading_at zero (one ∷ readings) = refl
reading_at (suc place) [] = refl
reading_at (suc place) (one ∷ readings) = reading_at place readings

-- what stands at a place, and what is left once it is given
pub record RestOf (place last : ℕ) (readings : List ℕ) : Type 0 where
  pub reading : reading_of (drop place readings) ≡ slice_index readings place
  pub later : last ≤ slice_index readings place
  pub more : place + 1 < length readings → readings_after (drop place readings) ≡ drop (place + 1) readings
  pub more_rise : place + 1 < length readings → DontFall (slice_index readings place) (drop (place + 1) readings)
  pub none : length readings ≤ place + 1 → readings_after (drop place readings) ≡ drop place readings
  pub none_rise : length readings ≤ place + 1 → DontFall (slice_index readings place) (drop place readings)

pub rest_of : (place last : ℕ) (readings : List ℕ) → place < length readings → DontFall last (drop place readings) → RestOf place last readings
rest_of place last readings within rise =
    let here = reading_at place readings in
    let count = length-drop place readings in
    let next = drop-drop 1 place readings in
    let left = left_of last (drop place readings) (omega (arith, count)) rise in
    record {
      reading = here;
      later = subst (λ (n : ℕ). last ≤ n) here left.later;
      more = λ lt. (left.more (omega (arith, count, lt))).0 ∙ next;
      more_rise = λ lt. subst (λ (n : ℕ). DontFall n (drop (place + 1) readings)) here (subst (λ (l : List ℕ). DontFall (reading_of (drop place readings)) l) next (left.more (omega (arith, count, lt))).1);
      none = λ le. (left.none (omega (arith, count, le))).0;
      none_rise = λ le. subst (λ (n : ℕ). DontFall n (drop place readings)) here (left.none (omega (arith, count, le))).1;
    }
