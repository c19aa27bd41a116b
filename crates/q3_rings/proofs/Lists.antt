-- The last of a list, and of what passes a test.
use Rattle.std.proofs.Common.{◌≡◌, Bool, true, false, List, [], ◌∷◌, ◌++◌, Option, Some, inl, inr, ◌⊎◌, zero, suc, refl, ap, ◌∙◌, arith}
use Rattle.std.specs.Prelude.{IfSome}
use Rattle.std.specs.List.{All, Contains, filter, last_or}
use Rattle.std.proofs.lemmas.List.{append-nil}
use Rattle.std.proofs.lemmas.List.Elements.{All-head, All-tail, filter-append}

pub last_push : {X : Type 0} (o : Option X) (xs : List X) (x : X) → last_or o (xs ++ x ∷ []) ≡ Some x
last_push o [] x = refl
last_push o (y ∷ xs) x = last_push (Some y) xs x

pub last_holds : {X : Type 0} (P : X → Type 0) (o : Option X) (xs : List X) → IfSome o P → All P xs → IfSome (last_or o xs) P
last_holds P o [] first each = first
last_holds P o (x ∷ xs) first each = last_holds P (Some x) xs (All-head P x xs each) (All-tail P x xs each)

-- nothing passes
pub filter_none : {X : Type 0} (test : X → Bool) (xs : List X) → All (λ x. test x ≡ false) xs → filter test xs ≡ []
filter_none test [] each = refl
filter_none test (x ∷ xs) each =
    let fails : test x ≡ false = All-head (λ x. test x ≡ false) x xs each in
    rw fails (filter_none test xs (All-tail (λ x. test x ≡ false) x xs each))

-- one more that passes, and one that doesn't
pub filter_push : {X : Type 0} (test : X → Bool) (xs : List X) (x : X) → test x ≡ true → filter test (xs ++ x ∷ []) ≡ filter test xs ++ x ∷ []
filter_push test xs x passes =
    let last : filter test (x ∷ []) ≡ x ∷ [] = rw passes refl in
    filter-append test xs (x ∷ []) ∙ ap (λ after. filter test xs ++ after) last

pub filter_passes_by : {X : Type 0} (test : X → Bool) (xs : List X) (x : X) → test x ≡ false → filter test (xs ++ x ∷ []) ≡ filter test xs
filter_passes_by test xs x fails =
    let last : filter test (x ∷ []) ≡ [] = rw fails refl in
    filter-append test xs (x ∷ []) ∙ ap (λ after. filter test xs ++ after) last ∙ append-nil (filter test xs)

pub contains_cases : {X : Type 0} (x : X) (xs : List X) (y : X) → Contains (x ∷ xs) y → (x ≡ y) ⊎ Contains xs y
contains_cases x xs y (zero, lt, is) = inl is
contains_cases x xs y (suc k, lt, is) = inr (k, omega arith, is)
