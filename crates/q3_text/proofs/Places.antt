-- The first place at which a byte passes a test, and the parts of a text that is cut at each such place.
use Rattle.std.proofs.Common.{◌≡◌, ℕ, ◌+◌, ◌≤◌, Bool, false, ltb, List, [], ◌∷◌, length, take, drop, Option, Some, None, refl, sym, ◌∙◌, arith, inl, inr}
use Rattle.std.specs.List.{All, position, position_or_len, slice_split}
use Rattle.std.proofs.lemmas.Bool.{cases_Bool, ltb-true, ltb-false, le-ltb}
use Rattle.std.proofs.lemmas.List.Sums.{fails_before_first, position_or_len_is}
use Rattle.std.proofs.lemmas.List.Elements.{All-get_or, All-from_get_or}
use Rattle.std.proofs.lemmas.List.Splits.{slice_split_first, slice_split_none}

abbrev pub no_place : Option ℕ
no_place = None

-- where no byte passes, each of them fails
pub none_pass : (p : ℕ → Bool) (text : List ℕ) → no_place ≡ position p text → All (λ x. p x ≡ false) text
none_pass p text is =
    let past : length text ≤ position_or_len p text = elim (cases_Bool (ltb (position_or_len p text) (length text))) [
      | inl below ↦ let e : no_place ≡ Some (position_or_len p text) = rw below at is in absurd cc
      | inr past ↦ ltb-false _ _ past
    ] in
    All-from_get_or (λ x. p x ≡ false) text 0 (λ i lt. fails_before_first p text i 0 (omega arith))

-- and where each fails, none passes
pub none_passes : (p : ℕ → Bool) (text : List ℕ) → All (λ x. p x ≡ false) text → position p text ≡ no_place
none_passes p text fails =
    let end : position_or_len p text ≡ length text = position_or_len_is p text (length text) 0 (omega arith) (λ k lt. All-get_or (λ x. p x ≡ false) text k 0 lt fails) (λ lt. absurd (omega arith)) in
    let past : ltb (position_or_len p text) (length text) ≡ false = le-ltb _ _ (omega arith) in
    rw past refl

-- the first part ends at the first place
pub parts_at : (p : ℕ → Bool) (text : List ℕ) (place : ℕ) → Some place ≡ position p text → slice_split p text ≡ take place text ∷ slice_split p (drop (place + 1) text)
parts_at p text place is =
    elim (cases_Bool (ltb (position_or_len p text) (length text))) [
      | inl below ↦
          let e : Some place ≡ Some (position_or_len p text) = rw below at is in
          let same : place ≡ position_or_len p text = cc in
          slice_split_first p text 0 (ltb-true _ _ below) ∙ rw (sym same) refl
      | inr past ↦ let e : Some place ≡ no_place = rw past at is in absurd cc
    ]

-- and where there is none, it is the only part
pub one_part : (p : ℕ → Bool) (text : List ℕ) → no_place ≡ position p text → slice_split p text ≡ text ∷ []
one_part p text is = slice_split_none p text (none_pass p text is)
