-- A list whose elements are changed one after the other.
use Rattle.std.proofs.Common.{◌≡◌, ◌∙◌, ℕ, zero, suc, ◌+◌, ◌<◌, ◌≤◌, Bool, false, List, [], ◌∷◌, ◌++◌, length, map, get_or, set, take, drop, Some, None, inl, inr, refl, sym, ap, add-one, arith}
use Rattle.std.specs.Prelude.{nat_lt}
use Rattle.std.specs.List.{position, position_or_len}
use Rattle.std.proofs.lemmas.Bool.{cases_lt, cond-true, lt-ltb}
use Rattle.std.proofs.lemmas.List.{take_all, drop_all, append-nil}
use Rattle.std.proofs.lemmas.List.Sums.{fails_before_first}

-- the first so many elements are changed
abbrev pub changed : {X : Type 0} → (X → X) → ℕ → List X → List X
changed f k xs = map f (take k xs) ++ drop k xs

pub item_stays : {X : Type 0} (f : X → X) (k : ℕ) (xs : List X) (d : X) → k < length xs → get_or (changed f k xs) k d ≡ get_or xs k d
item_stays f k [] d lt = absurd (omega arith)
item_stays f zero (x ∷ xs) d lt = refl
item_stays f (suc k) (x ∷ xs) d lt = item_stays f k xs d (omega arith)

one_more : {X : Type 0} (f : X → X) (k : ℕ) (xs : List X) (d : X) → k < length xs → set (changed f k xs) k (f (get_or xs k d)) ≡ changed f (suc k) xs
one_more f k [] d lt = absurd (omega arith)
one_more f zero (x ∷ xs) d lt = refl
one_more {X = X} f (suc k) (x ∷ xs) d lt = ap (λ (ys : List X). f x ∷ ys) (one_more f k xs d (omega arith))

-- one more is changed
pub change_more : {X : Type 0} (f : X → X) (k : ℕ) (xs now : List X) (d y : X) → k < length xs → now ≡ changed f k xs → y ≡ f (get_or now k d)
    → set now k y ≡ changed f (k + 1) xs
change_more {X = X} f k xs now d y lt now_is y_is =
    let at : get_or now k d ≡ get_or xs k d = ap (λ (ys : List X). get_or ys k d) now_is ∙ item_stays f k xs d lt in
    rw add-one (ap (λ (ys : List X). set ys k y) now_is ∙ ap (set (changed f k xs) k) (y_is ∙ ap f at) ∙ one_more f k xs d lt)

-- all are
pub changed_all : {X : Type 0} (f : X → X) (k : ℕ) (xs : List X) → length xs ≤ k → changed f k xs ≡ map f xs
changed_all {X = X} f k xs le =
    ap (λ (ys : List X). map f ys ++ drop k xs) (take_all k xs le) ∙ ap (λ (ys : List X). map f xs ++ ys) (drop_all k xs le) ∙ append-nil (map f xs)

-- where no element passes, each fails
pub none_passes : {X : Type 0} (p : X → Bool) (xs : List X) (k : ℕ) (d : X) → position p xs ≡ None → k < length xs → p (get_or xs k d) ≡ false
none_passes {X = X} p xs k d none lt =
    elim (cases_lt (position_or_len p xs) (length xs)) [
      | inl found ↦
          let some : position p xs ≡ Some (position_or_len p xs) = cond-true (nat_lt (position_or_len p xs) (length xs)) _ _ (lt-ltb _ _ found) in
          absurd (cc (sym none ∙ some))
      | inr past ↦ fails_before_first p xs k d (omega arith)
    ]
