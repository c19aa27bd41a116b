-- What changed in an array, as a map by rising place: its mask, its values put over the array, and the map one place up.
use Rattle.std.proofs.Common.{◌≡◌, ◌⊎◌, ℕ, zero, suc, ◌+◌, ◌-◌, ◌*◌, ◌^◌, ◌≤◌, ◌<◌, Bool, List, [], ◌∷◌, length, set, eqb, refl, ap, subst, ◌∙◌, add-one, arith, inl, inr}
use Rattle.std.proofs.Math.Nat.{pow-suc}
use Rattle.std.proofs.lemmas.Bool.{cases_Bool, eqb-true}
use Rattle.std.proofs.lemmas.List.Concat.{flat_map-cons}
use Rattle.std.proofs.lemmas.List.Elements.{All-head, All-tail}
use Rattle.std.specs.List.{All}
use Rattle.q3_fields.specs.declared.kind.Kind.{Kind}
use Rattle.q3_fields.specs.Kinds.{IsKind}
use Rattle.q3_fields.specs.Places.{Change, with_changes, AreRising}
use Rattle.q3_fields.specs.Texts.{player_field}
use Rattle.q3_fields.specs.Spelling.{SpellsPlayerField}
use Rattle.q3_fields.specs.Laws.{PlayerFieldIsSpelled}
use Rattle.q3_player.specs.Arrays.{changes_from, mask_of}
use Rattle.q3_player.specs.Spelling.{SpellsValues}
use Rattle.q3_player.specs.Delta.{values_bits}
use Rattle.q3_player.proofs.Changes.{twice}
use Rattle.q3_player.proofs.Kept.{IsKept}

-- from a lower least too
pub rises-weaker : (most least lower : ℕ) (changed : List Change) → lower ≤ least → AreRising most least changed → AreRising most lower changed
rises-weaker most least lower [] below rises = tt
rises-weaker most least lower (change ∷ others) below rises = (omega (arith, rises.0), rises.1, rises.2)

-- each place one higher
abbrev pub up : List Change → List Change
up [] = []
up (change ∷ others) = (change.0 + 1, change.1) ∷ up others

pub mask_of-up : (changed : List Change) → mask_of (up changed) ≡ 2 * mask_of changed
unfolding mask_of
mask_of-up [] = refl
mask_of-up (change ∷ others) = omega (arith, twice change.0, mask_of-up others)

pub with_changes-up : (x : ℕ) (from : List ℕ) (changed : List Change) → with_changes (x ∷ from) (up changed) ≡ x ∷ with_changes from changed
unfolding with_changes
with_changes-up x from [] = refl
with_changes-up x from (change ∷ others) = rw add-one (with_changes-up x (set from change.0 change.1) others)

pub rises-up : (most least : ℕ) (changed : List Change) → AreRising most least changed → AreRising (suc most) (least + 1) (up changed)
rises-up most least [] rises = tt
rises-up most least (change ∷ others) rises = (omega (arith, rises.0), omega (arith, rises.1), rises-up most (change.0 + 1) others rises.2)

-- places that rise from 1 are one higher than others
pub rises-down : (most least : ℕ) (changed : List Change) → AreRising (suc most) (least + 1) changed → (lower : List Change) × (changed ≡ up lower) × AreRising most least lower
rises-down most least [] rises = ([], refl, tt)
rises-down most least (change ∷ others) rises =
    let after = rises-down most change.0 others rises.2 in
    let place : change.0 ≡ change.0 - 1 + 1 = omega (arith, rises.0) in
    let first : change ≡ (change.0 - 1 + 1, change.1) = ap (λ (n : ℕ). (n, change.1)) place in
    ((change.0 - 1, change.1) ∷ after.0, rw (after.1, ← first) refl, (omega (arith, rises.0), omega (arith, rises.0, rises.1), subst (λ (n : ℕ). AreRising most n after.0) place after.2))

-- places below one more than most: the others are one higher than places below most, with or without the place 0
pub record Splits (most : ℕ) (changed : List Change) : Type 0 where
  pub lower : List Change
  pub rises : AreRising most 0 lower
  pub is : (changed ≡ up lower) ⊎ ((value : ℕ) × (changed ≡ (0, value) ∷ up lower))

splits-at : (most place value : ℕ) (others : List Change) → AreRising (suc most) 0 ((place, value) ∷ others) → Splits most ((place, value) ∷ others)
splits-at most zero value others rises =
    let after = rises-down most 0 others rises.2 in
    record { lower = after.0; rises = after.2; is = inr (value, ap (λ (xs : List Change). (0, value) ∷ xs) after.1) }
splits-at most (suc place) value others rises =
    let whole = rises-down most 0 ((suc place, value) ∷ others) (omega arith, rises.1, rises.2) in
    record { lower = whole.0; rises = whole.2; is = inl whole.1 }

pub splits : (most : ℕ) (changed : List Change) → AreRising (suc most) 0 changed → Splits most changed
splits most [] rises = record { lower = []; rises = tt; is = inl refl }
splits most (change ∷ others) rises = splits-at most change.0 change.1 others rises

-- the mask of such places
pub mask-one_up : (changed lower : List Change) → changed ≡ up lower → mask_of changed ≡ 2 * mask_of lower
mask-one_up changed lower is = ap mask_of is ∙ mask_of-up lower

pub mask-one_up_and_first : (changed lower : List Change) (value : ℕ) → changed ≡ (0, value) ∷ up lower → mask_of changed ≡ 1 + 2 * mask_of lower
unfolding mask_of
mask-one_up_and_first changed lower value is = omega (arith, ap mask_of is, mask_of-up lower)

mask-below_next : (most : ℕ) (changed lower : List Change) → mask_of lower < 2 ^ most → (changed ≡ up lower) ⊎ ((value : ℕ) × (changed ≡ (0, value) ∷ up lower))
    → mask_of changed < 2 ^ suc most
mask-below_next most changed lower below (inl is) = omega (arith, pow-suc 2 most, mask-one_up changed lower is)
mask-below_next most changed lower below (inr is) = omega (arith, pow-suc 2 most, mask-one_up_and_first changed lower is.0 is.1)

-- the mask is below the power of two
pub mask-below : (most : ℕ) (changed : List Change) → AreRising most 0 changed → mask_of changed < 2 ^ most
unfolding mask_of
mask-below zero [] rises = omega arith
mask-below zero (change ∷ others) rises = absurd (omega (arith, rises.1))
mask-below (suc most) changed rises =
    let parts = splits most changed rises in
    mask-below_next most changed parts.lower (mask-below most parts.lower parts.rises) parts.is

-- ---- what changed from one array to another

pub changes_from-up : (place : ℕ) (from to : List ℕ) → changes_from (place + 1) from to ≡ up (changes_from place from to)
unfolding changes_from
changes_from-up place [] to = refl
changes_from-up place (x ∷ from) [] = refl
changes_from-up place (x ∷ from) (y ∷ to) =
    let others = changes_from-up (place + 1) from to in
    elim (cases_Bool (eqb x y)) [
      | inl as_it_was ↦ rw as_it_was others
      | inr differs ↦ rw (differs, others) refl
    ]

pub changes-rise : (from to : List ℕ) → AreRising (length from) 0 (changes_from 0 from to)
unfolding changes_from
changes-rise [] to = tt
changes-rise (x ∷ from) [] = tt
changes-rise (x ∷ from) (y ∷ to) =
    let others : AreRising (suc (length from)) 1 (changes_from 1 from to) = rw (changes_from-up 0 from to) (rises-up (length from) 0 (changes_from 0 from to) (changes-rise from to)) in
    elim (cases_Bool (eqb x y)) [
      | inl as_it_was ↦ rw as_it_was (rises-weaker (suc (length from)) 1 0 (changes_from 1 from to) (omega arith) others)
      | inr differs ↦ rw differs (omega arith, omega arith, others)
    ]

-- what changed, put over the one, gives the other
pub with_changes-changes : (from to : List ℕ) → length from ≡ length to → with_changes from (changes_from 0 from to) ≡ to
unfolding changes_from with_changes
with_changes-changes [] [] same = refl
with_changes-changes [] (y ∷ to) same = absurd (omega arith)
with_changes-changes (x ∷ from) [] same = absurd (omega arith)
with_changes-changes (x ∷ from) (y ∷ to) same =
    let others = with_changes-changes from to (omega arith) in
    elim (cases_Bool (eqb x y)) [
      | inl as_it_was ↦ rw (as_it_was, changes_from-up 0 from to, with_changes-up x from (changes_from 0 from to), others, eqb-true x y as_it_was) refl
      | inr differs ↦ rw (differs, changes_from-up 0 from to, with_changes-up y from (changes_from 0 from to), others) refl
    ]

-- ---- spellings of values

pub values-up : (words : List (List Bool)) (kind : Kind) (changed : List Change) (text : List Bool) → SpellsValues words kind changed text → SpellsValues words kind (up changed) text
values-up words kind [] text s = s
values-up words kind (change ∷ others) text s = (s.0, s.1, s.2, s.3, values-up words kind others s.1 s.4)

pub values-down : (words : List (List Bool)) (kind : Kind) (changed : List Change) (text : List Bool) → SpellsValues words kind (up changed) text → SpellsValues words kind changed text
values-down words kind [] text s = s
values-down words kind (change ∷ others) text s = (s.0, s.1, s.2, s.3, values-down words kind others s.1 s.4)

-- what is written of values in normal form spells them
pub values-spelled : PlayerFieldIsSpelled → (words : List (List Bool)) (kind : Kind) → IsKind kind → (place : ℕ) (from to : List ℕ) → All (IsKept kind) to
    → SpellsValues words kind (changes_from place from to) (values_bits words kind (changes_from place from to))
unfolding changes_from values_bits
values-spelled law words kind allowed place [] to kept = refl
values-spelled law words kind allowed place (x ∷ from) [] kept = refl
values-spelled law words kind allowed place (x ∷ from) (y ∷ to) kept =
    let others = values-spelled law words kind allowed (place + 1) from to (All-tail (IsKept kind) y to kept) in
    let first = All-head (IsKept kind) y to kept in
    let spelled : SpellsPlayerField words kind y (player_field words kind y) = subst (λ (word : ℕ). SpellsPlayerField words kind word (player_field words kind y)) first.normal (law words kind y allowed first.fits) in
    elim (cases_Bool (eqb x y)) [
      | inl as_it_was ↦ rw as_it_was others
      | inr differs ↦
          rw differs
          (player_field words kind y, values_bits words kind (changes_from (place + 1) from to), flat_map-cons (λ (change : Change). player_field words kind change.1) (place, y) (changes_from (place + 1) from to), spelled, others)
    ]
