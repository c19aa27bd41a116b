-- Numbers in decimal: what a loop over the digits finds.
use Rattle.std.proofs.Common.{◌≡◌, ℕ, ◌+◌, ◌*◌, ◌-◌, ◌<◌, ◌≤◌, Bool, true, false, cond, leb, ltb, List, [], ◌∷◌, length, get_or, take, drop, Option, Some, None, refl, sym, ap, ◌∙◌, arith}
use Rattle.std.specs.Bool.{then_some}
use Rattle.std.specs.Option.{option_and_then}
use Rattle.std.specs.Prelude.{◌&&◌, ◌||◌}
use Rattle.std.specs.List.{list_all, fold}
use Rattle.std.proofs.lemmas.Bool.{leb-true, and_parts, lt-ltb, le-leb, lt-leb, le-ltb, and_left, and_right, and_from, or_from, or_left, or_right, cond-false}
use Rattle.std.proofs.lemmas.List.{take_more, take-append-drop, take_all}
use Rattle.std.proofs.lemmas.List.Folds.{list_all_at}
use Rattle.std.proofs.lemmas.List.Sums.{fold-append, fold_push}
use Rattle.q3_text.specs.Decimals.{is_digit, value_of, is_decimal, number_at}

-- one more digit
pub value_of_more : (word : List ℕ) (i : ℕ) → i < length word → value_of (take (i + 1) word) ≡ 10 * value_of (take i word) + (get_or word i 0 - 48)
value_of_more word i lt = ap value_of (take_more word i 0 lt) ∙ fold_push (λ value digit. 10 * value + (digit - 48)) 0 (take i word) (get_or word i 0)

-- more digits make no smaller number
fold-ge : (digits : List ℕ) (value : ℕ) → value ≤ fold (λ v digit. 10 * v + (digit - 48)) value digits
fold-ge [] value = omega arith
fold-ge (digit ∷ digits) value = omega (arith, fold-ge digits (10 * value + (digit - 48)))

-- a front of a word has no greater value
value_of-take-le : (word : List ℕ) (i : ℕ) → value_of (take i word) ≤ value_of word
value_of-take-le word i =
    let e : value_of word ≡ fold (λ v digit. 10 * v + (digit - 48)) (value_of (take i word)) (drop i word) = ap value_of (sym (take-append-drop i word)) ∙ fold-append (λ v digit. 10 * v + (digit - 48)) 0 (take i word) (drop i word) in
    omega (arith, fold-ge (drop i word) (value_of (take i word)))

-- a word that isn't a decimal is no number
none-number_at : (low high : ℕ) (word : List ℕ) → is_decimal word ≡ false → None ≡ number_at low high word
unfolding number_at
none-number_at low high word e = sym (cond-false _ _ _ (and_left _ _ (and_left _ _ e)))

-- the empty word is no number
pub none_at_empty : (low high : ℕ) (word : List ℕ) → length word ≡ 0 → None ≡ number_at low high word
none_at_empty low high word e = none-number_at low high word (and_left _ _ (and_left _ _ (le-ltb 0 (length word) (omega arith))))

-- nor is one with a 0 before others
pub none_at_zero : (low high : ℕ) (word : List ℕ) → 1 < length word → get_or word 0 0 ≡ 48 → None ≡ number_at low high word
none_at_zero low high word lt e = none-number_at low high word (and_right _ _ (or_from _ _ (lt-leb _ _ lt) (le-ltb 48 (get_or word 0 0) (omega arith))))

-- nor one with a byte that is no digit
pub none_at_byte : (low high : ℕ) (word : List ℕ) (i : ℕ) → i < length word → is_digit (get_or word i 0) ≡ false → None ≡ number_at low high word
none_at_byte low high word i lt e = none-number_at low high word (and_left _ _ (and_right _ _ (list_all_at is_digit word i 0 lt e)))

-- nor one with a front whose value is above the highest
pub none_above : (low high : ℕ) (word : List ℕ) (i : ℕ) → high < value_of (take i word) → None ≡ number_at low high word
unfolding number_at
none_above low high word i lt =
    let above : high < value_of word = omega (arith, value_of-take-le word i) in
    sym (cond-false _ _ _ (and_right _ _ (lt-leb _ _ above)))

-- digits alone begin with one that is more than 0, or have no others after it
decimal_head : (word : List ℕ) → 0 < length word → list_all is_digit word ≡ true → (1 < length word → get_or word 0 0 ≡ 48 → ⊥) → (leb (length word) 1 || ltb 48 (get_or word 0 0)) ≡ true
decimal_head [] lt digits no_zero = absurd (omega arith)
decimal_head (x ∷ []) lt digits no_zero = or_left _ (ltb 48 x) (le-leb 1 1 (omega arith))
decimal_head (x ∷ y ∷ word) lt digits no_zero =
    let least : 48 ≤ x = leb-true 48 x (and_parts (leb 48 x) (leb x 57) (and_parts (is_digit x) (list_all is_digit (y ∷ word)) digits).0).0 in
    let other = no_zero (omega arith) in
    or_right _ _ (lt-ltb 48 x (omega arith))

-- a test between two that hold
some_if : (b : Bool) (value : ℕ) → then_some b value ≡ cond (true && b && true) (Some value) None
some_if true value = refl
some_if false value = refl

-- digits alone, up to the highest number, are one if they are at least the lowest
pub some_at_digits : (low high value : ℕ) (word : List ℕ) (i : ℕ) → 0 < length word → (1 < length word → get_or word 0 0 ≡ 48 → ⊥) → length word ≤ i → list_all is_digit (take i word) ≡ true → value ≡ value_of (take i word) → value ≤ high → then_some (leb low value) value ≡ number_at low high word
unfolding number_at
some_at_digits low high value word i lt no_zero end digits is le =
    let whole : take i word ≡ word = take_all i word end in
    let all : list_all is_digit word ≡ true = rw whole at digits in
    let same : value ≡ value_of word = rw whole at is in
    let decimal : is_decimal word ≡ true = and_from _ _ (and_from _ _ (lt-ltb _ _ lt) all) (decimal_head word lt all no_zero) in
    let upper : leb (value_of word) high ≡ true = le-leb _ _ (omega arith) in
    rw (decimal, upper, same) (some_if (leb low (value_of word)) (value_of word))

-- a number from a lower limit on is one from 0 on that isn't below it
least_if : (spelled least most : Bool) (value : ℕ)
    → cond (spelled && least && most) (Some value) None ≡ option_and_then (λ (_ : ℕ). then_some least value) (cond (spelled && true && most) (Some value) None)
least_if true true true value = refl
least_if true true false value = refl
least_if true false true value = refl
least_if true false false value = refl
least_if false least most value = refl

from_least : (low high : ℕ) (word : List ℕ) → number_at low high word ≡ option_and_then (λ value. then_some (leb low value) value) (number_at 0 high word)
unfolding number_at
from_least low high word =
    let zero : leb 0 (value_of word) ≡ true = le-leb 0 (value_of word) (omega arith) in
    rw zero (whole (is_decimal word) (leb (value_of word) high))
  where
    whole : (spelled most : Bool) → cond (spelled && leb low (value_of word) && most) (Some (value_of word)) None ≡ option_and_then (λ value. then_some (leb low value) value) (cond (spelled && true && most) (Some (value_of word)) None)
    whole true true = least_if true (leb low (value_of word)) true (value_of word)
    whole true false = least_if true (leb low (value_of word)) false (value_of word)
    whole false most = refl

-- so where there is none from 0 on there is none
pub none_from : (low high : ℕ) (word : List ℕ) → None ≡ number_at 0 high word → None ≡ number_at low high word
none_from low high word none = ap (λ (found : Option ℕ). option_and_then (λ value. then_some (leb low value) value) found) none ∙ sym (from_least low high word)

-- and where there is one, it is that if it is at least the lowest
pub some_from : (low high value : ℕ) (word : List ℕ) → Some value ≡ number_at 0 high word → then_some (leb low value) value ≡ number_at low high word
some_from low high value word some = ap (λ (found : Option ℕ). option_and_then (λ value. then_some (leb low value) value) found) some ∙ sym (from_least low high word)
