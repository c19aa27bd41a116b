-- What is held of the snapshots that were accepted.
use Rattle.std.proofs.Common.{◌≡◌, ℕ, ◌+◌, ◌-◌, ◌*◌, ◌<◌, ◌≤◌, max, true, false, eqb, List, [], ◌∷◌, Option, Some, None, Result, Ok, Err, inl, inr, refl, sym, ap, ◌∙◌, subst, arith}
use Rattle.std.specs.Prelude.{IfSome, option_map, if◌then◌else◌}
use Rattle.std.specs.List.{All, Contains, filter, sum_by, last_or}
use Rattle.std.proofs.lemmas.Bool.{cases_Bool, eq-eqb, ne_eqb, eqb-true, le-leb, leb-true, leb-false}
use Rattle.std.proofs.lemmas.List.Elements.{All-nil, All-cons, All-head, All-tail, All-filter, All-weaker, All-contains, All-contains_itself}
use Rattle.std.proofs.lemmas.List.Sums.{sum_by-cons}
use Rattle.q3_entity.specs.Entities.{most_entities}
use Rattle.q3_entity_ring.specs.Snapshot.{Snapshot}
use Rattle.q3_entity_ring.specs.Places.{place_of}
use Rattle.q3_rings.specs.declared.rings.NoBase.{NoBase}
use Rattle.q3_rings.specs.declared.rings.NoBase.TheVariants.{NeverHeld, Overwritten, EntitiesGone}
use Rattle.q3_rings.specs.Rings.{HeldSnapshot, is_young, young, snapshot_under}
use Rattle.q3_rings.specs.Accepted.{AcceptedFrom, AreAccepted, newest_of, last_accepted, age_of, aged, held_among}
use Rattle.q3_rings.proofs.Lists.{last_holds, filter_none, contains_cases}
use Rattle.q3_rings.proofs.Rising.{has_place, counts, size, IsBelow, all_below}

-- ---- what is held was accepted

abbrev pub ok : Snapshot → Result Snapshot NoBase
ok snapshot = Ok snapshot

abbrev pub err : NoBase → Result Snapshot NoBase
err cause = Err cause

pub young_is : (ring : ℕ) (held : HeldSnapshot) (snapshot : Snapshot) → young ring held ≡ Ok snapshot → held.snapshot ≡ snapshot
young_is ring held snapshot is = elim (cases_Bool (is_young ring held.age)) [
  | inl there ↦ let e : ok held.snapshot ≡ ok snapshot = rw there at is in cc
  | inr gone ↦ let e : err (EntitiesGone held.age) ≡ ok snapshot = rw gone at is in absurd cc
]

under_is : (ring number : ℕ) (have : List Snapshot) (last : Option Snapshot) (snapshot : Snapshot) → IfSome last (Contains have)
    → snapshot_under ring number (option_map (aged have) last) ≡ Ok snapshot → Contains have snapshot × (snapshot.head.number ≡ number)
under_is ring number have None snapshot within is = absurd cc
under_is ring number have (Some one) snapshot within is = elim (cases_Bool (eqb one.head.number number)) [
  | inl same ↦
      let e : young ring (aged have one) ≡ Ok snapshot = rw same at is in
      let one_is : one ≡ snapshot = young_is ring (aged have one) snapshot e in
      (subst (Contains have) one_is within, ap (λ (one : Snapshot). one.head.number) (sym one_is) ∙ eqb-true one.head.number number same)
  | inr other ↦ let e : err (Overwritten one.head.number) ≡ ok snapshot = rw other at is in absurd cc
]

pub last_is_accepted : (have : List Snapshot) (number : ℕ) → IfSome (last_accepted have number) (Contains have)
last_is_accepted have number =
    last_holds (Contains have) None (filter (has_place number) have) tt
    (All-filter (has_place number) (Contains have) have (All-contains_itself have))

pub held_was_accepted : (ring : ℕ) (have : List Snapshot) (number : ℕ) (snapshot : Snapshot) → held_among ring have number ≡ Ok snapshot
    → Contains have snapshot × (snapshot.head.number ≡ number)
held_was_accepted ring have number snapshot is = elim (cases_Bool (eqb number 0)) [
  | inl zero ↦ let e : err NeverHeld ≡ ok snapshot = rw zero at is in absurd cc
  | inr some ↦ under_is ring number have (last_accepted have number) snapshot (last_is_accepted have number) (rw some at is)
]

-- ---- what is near is the last in its place

-- no number that is less than 32 higher has the same place
others_elsewhere : (number least : ℕ) (have : List Snapshot) → number < least → AcceptedFrom least have → All (IsBelow (number + 32)) have
    → All (λ one. has_place number one ≡ false) have
others_elsewhere number least [] below are near = All-nil (λ one. has_place number one ≡ false)
others_elsewhere number least (x ∷ have) below are near =
    let from = are.0 in
    let first = All-head (IsBelow (number + 32)) x have near in
    All-cons (λ one. has_place number one ≡ false) x have
    (ne_eqb (place_of x.head.number) (place_of number) (λ same. omega arith))
    (others_elsewhere number (x.head.number + 1) have (omega arith) are.2 (All-tail (IsBelow (number + 32)) x have near))

near_is_last : (least : ℕ) (o : Option Snapshot) (have : List Snapshot) (snapshot : Snapshot) → AcceptedFrom least have → Contains have snapshot
    → All (IsBelow (snapshot.head.number + 32)) have
    → last_or o (filter (has_place snapshot.head.number) have) ≡ Some snapshot
near_is_last least o [] snapshot are (k, lt, is) near = absurd (omega arith)
near_is_last least o (x ∷ have) snapshot are within near = elim (contains_cases x have snapshot within) [
  | inl is ↦
      let same : x.head.number ≡ snapshot.head.number = ap (λ (one : Snapshot). one.head.number) is in
      let here : has_place snapshot.head.number x ≡ true = eq-eqb _ _ (ap place_of same) in
      let none : filter (has_place snapshot.head.number) have ≡ [] =
      filter_none (has_place snapshot.head.number) have
      (others_elsewhere snapshot.head.number (x.head.number + 1) have (omega arith) are.2 (All-tail (IsBelow (snapshot.head.number + 32)) x have near)) in
      rw (here, none) (ap (λ (one : Snapshot). Some one) is)
  | inr after ↦
      let step : (o : Option Snapshot) → last_or o (filter (has_place snapshot.head.number) have) ≡ Some snapshot =
      λ o. near_is_last (x.head.number + 1) o have snapshot are.2 after (All-tail (IsBelow (snapshot.head.number + 32)) x have near) in
      elim (cases_Bool (has_place snapshot.head.number x)) [
        | inl here ↦ rw here (step (Some x))
        | inr other ↦ rw other (step o)
      ]
]

-- a number that was accepted isn't 0
some_from : (least : ℕ) (have : List Snapshot) → 0 < least → AcceptedFrom least have → All (λ (one : Snapshot). 0 < one.head.number) have
some_from least [] some are = All-nil (λ (one : Snapshot). 0 < one.head.number)
some_from least (x ∷ have) some are =
    let from = are.0 in
    All-cons (λ (one : Snapshot). 0 < one.head.number) x have (omega arith) (some_from (x.head.number + 1) have (omega arith) are.2)

pub near_is_held : (ring : ℕ) (have : List Snapshot) (number : ℕ) (snapshot : Snapshot) → AreAccepted have → Contains have snapshot
    → newest_of have < number → number < snapshot.head.number + 29
    → held_among ring have snapshot.head.number
    ≡ (if is_young ring (age_of have snapshot.head.number) then Ok snapshot else Err (EntitiesGone (age_of have snapshot.head.number)))
near_is_held ring have number snapshot are within newer near =
    let some : 0 < snapshot.head.number = All-contains (λ (one : Snapshot). 0 < one.head.number) have snapshot (some_from 1 have (omega arith) are) within in
    let not_zero : eqb snapshot.head.number 0 ≡ false = ne_eqb snapshot.head.number 0 (λ zero. omega arith) in
    let last : last_accepted have snapshot.head.number ≡ Some snapshot = near_is_last 1 None have snapshot are within
    (All-weaker (IsBelow number) (IsBelow (snapshot.head.number + 32)) (λ one below. omega arith) have (all_below have number are newer)) in
    let same : eqb snapshot.head.number snapshot.head.number ≡ true = eq-eqb _ _ refl in
    rw (not_zero, last, same) refl

-- ---- and is young in a large ring

-- each number has at most 256 entities
age_from : (least number limit : ℕ) (have : List Snapshot) → AcceptedFrom least have → All (IsBelow limit) have
    → sum_by size (filter (counts number) have) ≤ 256 * (limit - max least number)
age_from least number limit [] are below = omega arith
age_from least number limit (x ∷ have) are below =
    let from = are.0 in
    let few = are.1 in
    let first = All-head (IsBelow limit) x have below in
    let after = age_from (x.head.number + 1) number limit have are.2 (All-tail (IsBelow limit) x have below) in
    elim (cases_Bool (counts number x)) [
      | inl newer ↦
          let le = leb-true _ _ newer in
          rw newer (omega (arith, sum_by-cons size x (filter (counts number) have)))
      | inr older ↦ let lt = leb-false _ _ older in rw older (omega arith)
    ]

pub usual_ring_holds : (ring : ℕ) (have : List Snapshot) (number : ℕ) (snapshot : Snapshot) → 8192 ≤ ring → AreAccepted have → Contains have snapshot
    → newest_of have < number → number < snapshot.head.number + 29 → held_among ring have snapshot.head.number ≡ Ok snapshot
usual_ring_holds ring have number snapshot room are within newer near =
    let age : age_of have snapshot.head.number ≤ 256 * (number - max 1 snapshot.head.number) = age_from 1 snapshot.head.number number have are (all_below have number are newer) in
    let young : is_young ring (age_of have snapshot.head.number) ≡ true = le-leb (age_of have snapshot.head.number) (ring - most_entities) (omega arith) in
    near_is_held ring have number snapshot are within newer near ∙ rw young refl
