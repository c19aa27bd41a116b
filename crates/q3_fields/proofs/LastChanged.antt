-- The count of fields that a delta carries.
use Rattle.std.proofs.Common.{◌≡◌, ◌≢◌, ℕ, zero, suc, ◌+◌, ◌-◌, ◌≤◌, ◌<◌, false, cond, eqb, ◌&&◌, List, [], ◌∷◌, ◌++◌, length, take, drop, get_or, refl, sym, ap, ◌∙◌, add-one, arith, inl, inr}
use Rattle.std.proofs.lemmas.Bool.{cases_Bool, eqb-true, ne_eqb, eq-eqb, and_parts}
use Rattle.std.proofs.lemmas.List.{take_more, length-take-le}
use Rattle.std.proofs.Math.Seq.{take-add}
use Rattle.std.specs.List.{slice_range}
use Rattle.q3_fields.specs.Deltas.{last_changed}

-- a word more at the end counts all before it where it differs, and else none
last_changed-push : (from to : List ℕ) (x y : ℕ) → length from ≡ length to
    → last_changed (from ++ x ∷ []) (to ++ y ∷ []) ≡ cond (eqb x y) (last_changed from to) (length from + 1)
unfolding last_changed
last_changed-push [] [] x y same = refl
last_changed-push [] (b ∷ to) x y same = absurd (omega arith)
last_changed-push (a ∷ from) [] x y same = absurd (omega arith)
last_changed-push (a ∷ from) (b ∷ to) x y same =
    let others = last_changed-push from to x y (omega arith) in
    let some : eqb (length from + 1) 0 ≡ false = ne_eqb (length from + 1) 0 (λ none. omega arith) in
    elim (cases_Bool (eqb x y)) [
      | inl as_it_was ↦ rw (others, as_it_was) refl
      | inr differs ↦ rw (others, differs, some) (omega arith)
    ]

-- one word more is compared
last_changed-more : (from to : List ℕ) (k : ℕ) → k < length from → k < length to
    → last_changed (take (k + 1) from) (take (k + 1) to) ≡ cond (eqb (get_or from k 0) (get_or to k 0)) (last_changed (take k from) (take k to)) (k + 1)
last_changed-more from to k within within' =
    let long : length (take k from) ≡ k = length-take-le k from (omega arith) in
    let long' : length (take k to) ≡ k = length-take-le k to (omega arith) in
    rw (take_more from k 0 within, take_more to k 0 within')
    (last_changed-push (take k from) (take k to) (get_or from k 0) (get_or to k 0) (long ∙ sym long')
    ∙ ap (λ (n : ℕ). cond (eqb (get_or from k 0) (get_or to k 0)) (last_changed (take k from) (take k to)) (n + 1)) long)

-- it differs
pub last_changed-differs : (from to : List ℕ) (k : ℕ) → k < length from → k < length to → get_or from k 0 ≢ get_or to k 0
    → last_changed (take (k + 1) from) (take (k + 1) to) ≡ k + 1
last_changed-differs from to k within within' differs =
    last_changed-more from to k within within' ∙ rw (ne_eqb (get_or from k 0) (get_or to k 0) differs) refl

-- it is as it was
pub last_changed-same : (from to : List ℕ) (k : ℕ) → k < length from → k < length to → get_or from k 0 ≡ get_or to k 0
    → last_changed (take (k + 1) from) (take (k + 1) to) ≡ last_changed (take k from) (take k to)
last_changed-same from to k within within' same =
    last_changed-more from to k within within' ∙ rw (eq-eqb (get_or from k 0) (get_or to k 0) same) refl

-- from the count on the words agree
pub last_changed-agrees : (from to : List ℕ) → length from ≡ length to → drop (last_changed from to) from ≡ drop (last_changed from to) to
unfolding last_changed
last_changed-agrees [] [] same = refl
last_changed-agrees [] (y ∷ to) same = absurd (omega arith)
last_changed-agrees (x ∷ from) [] same = absurd (omega arith)
last_changed-agrees (x ∷ from) (y ∷ to) same =
    let others : drop (last_changed from to) from ≡ drop (last_changed from to) to = last_changed-agrees from to (omega arith) in
    elim (cases_Bool (eqb (last_changed from to) 0 && eqb x y)) [
      | inl none ↦
          let both = and_parts (eqb (last_changed from to) 0) (eqb x y) none in
          let first : x ≡ y = eqb-true x y both.1 in
          let rest = rw (eqb-true (last_changed from to) 0 both.0) at others in
          rw (none, first, rest) refl
      | inr some ↦ rw (some, add-one) others
    ]

-- and from no smaller number on
pub last_changed-least : (from to : List ℕ) → length from ≡ length to → (n : ℕ) → drop n from ≡ drop n to → last_changed from to ≤ n
unfolding last_changed
last_changed-least [] [] same n agree = omega arith
last_changed-least [] (y ∷ to) same n agree = absurd (omega arith)
last_changed-least (x ∷ from) [] same n agree = absurd (omega arith)
last_changed-least (x ∷ from) (y ∷ to) same zero agree =
    let first : x ≡ y = cc in
    let rest : from ≡ to = cc in
    let none : last_changed from to ≤ 0 = last_changed-least from to (omega arith) 0 rest in
    rw (eq-eqb (last_changed from to) 0 (omega arith), eq-eqb x y first) (omega arith)
last_changed-least (x ∷ from) (y ∷ to) same (suc n) agree =
    let others = last_changed-least from to (omega arith) n agree in
    elim (cases_Bool (eqb (last_changed from to) 0 && eqb x y)) [
      | inl none ↦ rw none (omega arith)
      | inr some ↦ rw some (omega arith)
    ]

-- the count is within the words
pub last_changed-le : (from to : List ℕ) → last_changed from to ≤ length from
unfolding last_changed
last_changed-le [] to = omega arith
last_changed-le (x ∷ from) [] = omega arith
last_changed-le (x ∷ from) (y ∷ to) =
    let others = last_changed-le from to in
    elim (cases_Bool (eqb (last_changed from to) 0 && eqb x y)) [
      | inl none ↦ rw none (omega arith)
      | inr some ↦ rw some (omega arith)
    ]

-- words that agree count nothing
pub last_changed-none : (words : List ℕ) → last_changed words words ≡ 0
last_changed-none words = omega (arith, last_changed-least words words refl 0 refl)

-- nor do they after others
last_changed-after : (from to words : List ℕ) → length from ≡ length to → last_changed (from ++ words) (to ++ words) ≡ last_changed from to
unfolding last_changed
last_changed-after [] [] words same = last_changed-none words
last_changed-after [] (y ∷ to) words same = absurd (omega arith)
last_changed-after (x ∷ from) [] words same = absurd (omega arith)
last_changed-after (x ∷ from) (y ∷ to) words same = rw (last_changed-after from to words (omega arith)) refl

-- the words from one place to another agree
pub last_changed-block : (from to : List ℕ) (start end : ℕ) → start ≤ end → end ≤ length from → end ≤ length to
    → slice_range from start end ≡ slice_range to start end
    → last_changed (take start from) (take start to) ≡ last_changed (take end from) (take end to)
last_changed-block from to start end some within within' agree =
    let long : length (take start from) ≡ start = length-take-le start from (omega arith) in
    let long' : length (take start to) ≡ start = length-take-le start to (omega arith) in
    let whole : start + (end - start) ≡ end = omega arith in
    let front : take end from ≡ take start from ++ slice_range from start end = ap (λ n. take n from) (sym whole) ∙ take-add start (end - start) from in
    let front' : take end to ≡ take start to ++ slice_range to start end = ap (λ n. take n to) (sym whole) ∙ take-add start (end - start) to in
    sym (rw (front, front', agree) (last_changed-after (take start from) (take start to) (slice_range to start end) (long ∙ sym long')))
