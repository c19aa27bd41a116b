-- What changed from one array to another, as loops find and write it.
use Rattle.std.proofs.Common.{◌≡◌, ◌≢◌, ℕ, ◌+◌, ◌^◌, ◌≤◌, ◌<◌, Bool, cond, eqb, List, [], ◌∷◌, ◌++◌, length, take, drop, get_or, refl, sym, ap, ◌∙◌, add-one, arith, inl, inr}
use Rattle.std.proofs.Math.Dec.{eqb-suc-zero}
use Rattle.std.proofs.lemmas.Bool.{cases_Bool, eq-eqb, ne_eqb}
use Rattle.std.proofs.lemmas.List.{append-nil, take_more, drop_more, drop_all, length-take-le}
use Rattle.std.proofs.lemmas.List.Concat.{flat_map-cons}
use Rattle.std.proofs.Math.Nat.{pow-suc}
use Rattle.std.proofs.lemmas.Nat.{pow_pos}
use Rattle.q3_bits.specs.Words.{field_bits}
use Rattle.q3_fields.specs.declared.kind.Kind.{Kind}
use Rattle.q3_fields.specs.Places.{Change}
use Rattle.q3_fields.specs.Texts.{player_field}
use Rattle.q3_player.specs.Arrays.{changes_from, changes, mask_of}
use Rattle.q3_player.specs.Delta.{values_bits, array_bits}

-- a place more at the end
changes_from-push : (place : ℕ) (from to : List ℕ) (x y : ℕ) → length from ≡ length to
    → changes_from place (from ++ x ∷ []) (to ++ y ∷ []) ≡ changes_from place from to ++ cond (eqb x y) [] ((place + length from, y) ∷ [])
unfolding changes_from
changes_from-push place [] [] x y same =
    let here : place + 0 ≡ place = omega arith in
    rw here refl
changes_from-push place [] (b ∷ to) x y same = absurd (omega arith)
changes_from-push place (a ∷ from) [] x y same = absurd (omega arith)
changes_from-push place (a ∷ from) (b ∷ to) x y same =
    let others = changes_from-push (place + 1) from to x y (omega arith) in
    let here : place + 1 + length from ≡ place + length (a ∷ from) = omega arith in
    elim (cases_Bool (eqb a b)) [
      | inl as_it_was ↦ rw (as_it_was, ← here) others
      | inr differs ↦ rw (differs, ← here, others) refl
    ]

-- one place more is compared
changes-more : (from to : List ℕ) (k : ℕ) → k < length from → k < length to
    → changes (take (k + 1) from) (take (k + 1) to) ≡ changes (take k from) (take k to) ++ cond (eqb (get_or from k 0) (get_or to k 0)) [] ((k, get_or to k 0) ∷ [])
changes-more from to k within within' =
    let long : length (take k from) ≡ k = length-take-le k from (omega arith) in
    let long' : length (take k to) ≡ k = length-take-le k to (omega arith) in
    let here : 0 + length (take k from) ≡ k = omega arith in
    rw (take_more from k 0 within, take_more to k 0 within')
    (changes_from-push 0 (take k from) (take k to) (get_or from k 0) (get_or to k 0) (long ∙ sym long')
    ∙ ap (λ (n : ℕ). changes_from 0 (take k from) (take k to) ++ cond (eqb (get_or from k 0) (get_or to k 0)) [] ((n, get_or to k 0) ∷ [])) here)

-- the mask of places, one after the other
mask_of-push : (changed : List Change) (change : Change) → mask_of (changed ++ change ∷ []) ≡ mask_of changed + 2 ^ change.0
unfolding mask_of
mask_of-push [] change = omega arith
mask_of-push (first ∷ others) change = omega (arith, mask_of-push others change)

-- it differs
pub mask-differs : (from to : List ℕ) (k : ℕ) → k < length from → k < length to → get_or from k 0 ≢ get_or to k 0
    → mask_of (changes (take (k + 1) from) (take (k + 1) to)) ≡ mask_of (changes (take k from) (take k to)) + 2 ^ k
mask-differs from to k within within' differs =
    rw (changes-more from to k within within', ne_eqb (get_or from k 0) (get_or to k 0) differs) (mask_of-push (changes (take k from) (take k to)) (k, get_or to k 0))

-- it is as it was
pub mask-same : (from to : List ℕ) (k : ℕ) → k < length from → k < length to → get_or from k 0 ≡ get_or to k 0
    → mask_of (changes (take (k + 1) from) (take (k + 1) to)) ≡ mask_of (changes (take k from) (take k to))
mask-same from to k within within' same =
    rw (changes-more from to k within within', eq-eqb (get_or from k 0) (get_or to k 0) same) (ap mask_of (append-nil (changes (take k from) (take k to))))

-- a mask of no places
pub mask_of-none : (changed : List Change) → mask_of changed ≡ 0 → changed ≡ []
unfolding mask_of
mask_of-none [] none = refl
mask_of-none (change ∷ others) none = absurd (omega (arith, pow_pos change.0))

-- an array as it was
pub array_text_none : (words : List (List Bool)) (kind : Kind) (changed : List Change) → mask_of changed ≡ 0 → array_bits words kind changed ≡ field_bits words 1 0
unfolding array_bits
array_text_none words kind changed none = rw (mask_of-none changed none) refl

-- an array that changed
pub array_text_some : (words : List (List Bool)) (kind : Kind) (changed : List Change) → mask_of changed ≢ 0
    → array_bits words kind changed ≡ field_bits words 1 1 ++ field_bits words 16 (mask_of changed) ++ values_bits words kind changed
unfolding array_bits mask_of
array_text_some words kind [] some = absurd (some refl)
array_text_some words kind (change ∷ others) some = rw (eqb-suc-zero (length others)) refl

-- what is left of the values, one place on
pub values_bits-next : (words same : List (List Bool)) (kind : Kind) (k : ℕ) (from to : List ℕ) → same ≡ words → k < length from → k < length to
    → values_bits words kind (changes_from k (drop k from) (drop k to))
    ≡ values_bits same kind (changes (get_or from k 0 ∷ []) (get_or to k 0 ∷ [])) ++ values_bits words kind (changes_from (k + 1) (drop (k + 1) from) (drop (k + 1) to))
unfolding changes_from values_bits
values_bits-next words same kind k from to is within within' =
    let others = changes_from (k + 1) (drop (k + 1) from) (drop (k + 1) to) in
    elim (cases_Bool (eqb (get_or from k 0) (get_or to k 0))) [
      | inl as_it_was ↦ rw (is, drop_more from k 0 within, drop_more to k 0 within', as_it_was) refl
      | inr differs ↦
          rw (is, drop_more from k 0 within, drop_more to k 0 within', differs, append-nil (player_field words kind (get_or to k 0)))
          (flat_map-cons (λ (x : Change). player_field words kind x.1) (k, get_or to k 0) others)
    ]

-- nothing is left at the end
pub values_bits-end : (words : List (List Bool)) (kind : Kind) (k : ℕ) (from to : List ℕ) → length from ≤ k
    → values_bits words kind (changes_from k (drop k from) (drop k to)) ≡ []
unfolding changes_from values_bits
values_bits-end words kind k from to past = rw (drop_all k from past) refl

-- the next power of two
pub twice : (k : ℕ) → 2 ^ (k + 1) ≡ 2 ^ k + 2 ^ k
twice k = rw (add-one, pow-suc 2 k) (omega arith)

-- a place as it was, and one that changed
pub values_bits-same : (words : List (List Bool)) (kind : Kind) (from to : ℕ) → from ≡ to → values_bits words kind (changes (from ∷ []) (to ∷ [])) ≡ []
unfolding changes_from values_bits
values_bits-same words kind from to same = rw (eq-eqb from to same) refl

pub values_bits-differs : (words : List (List Bool)) (kind : Kind) (from to : ℕ) → from ≢ to
    → values_bits words kind (changes (from ∷ []) (to ∷ [])) ≡ player_field words kind to
unfolding changes_from values_bits
values_bits-differs words kind from to differs = rw (ne_eqb from to differs) (append-nil (player_field words kind to))
