-- The rules that snapshots keep which are read one after the other.
use Rattle.std.proofs.Common.{◌≡◌, ℕ, zero, suc, ◌+◌, ◌-◌, ◌<◌, ◌≤◌, ◌==◌, ◌&&◌, ◌||◌, true, false, List, [], ◌∷◌, length, get_or, set, Option, Some, None, inl, inr, refl, sym, ap, subst, arith}
use Rattle.std.specs.Prelude.{All, IfSome, min, nat_lt, nat_le}
use Rattle.std.specs.Option.{is_none}
use Rattle.std.proofs.lemmas.Bool.{cases_lt, and_from, eq-eqb, le-leb, lt-ltb, or_left, or_right, cond_both}
use Rattle.std.proofs.lemmas.List.{get_or_past}
use Rattle.std.proofs.lemmas.List.Elements.{All-get_or}
use Rattle.std.proofs.lemmas.Option.{IfSome_then}
use Rattle.q3_entity.specs.Entities.{most_entities}
use Rattle.q3_entity_ring.specs.Places.{most_places, place_of, at_number}
use Rattle.q3_rings.specs.Rings.{HeldSnapshot, HeldSnapshots, IsHeldIn, IsOlder, AreHeldSnapshots, is_young, no_snapshots, put_back_at}
use Rattle.q3_rings.specs.ByNumber.{held_under, held_up_to, by_number, HoldsNewest}
use Rattle.q3_profile.specs.declared.profile.Profile.{Profile}
use Rattle.q3_savestate.specs.Snapshots.{last_number, is_slot, most_of}
use Rattle.q3_savestate.specs.Standing.{IsHeldWell, AreWellHeld}
use Rattle.q3_savestate.proofs.HeldInOrder.{none_or_one, held_from, up_to_from, held_is_there, some_left, IsUpTo, none_is_up_to, up_to_passes, next_is_free, up_to_put}

-- ---- how many there are

-- how many places are taken
abbrev filled : List (Option HeldSnapshot) → ℕ
filled [] = 0
filled (None ∷ places) = filled places
filled (Some one ∷ places) = suc (filled places)

-- no more than there are
filled_few : (places : List (Option HeldSnapshot)) → filled places ≤ length places
filled_few [] = omega arith
filled_few (None ∷ places) = let few = filled_few places in omega arith
filled_few (Some one ∷ places) = let few = filled_few places in omega arith

-- one that is put into a free place takes it
filled_set : (places : List (Option HeldSnapshot)) (i : ℕ) (one : HeldSnapshot) → i < length places → get_or places i None ≡ None
    → filled (set places i (Some one)) ≡ suc (filled places)
filled_set [] i one within free = absurd (omega arith)
filled_set (None ∷ places) zero one within free = refl
filled_set (Some other ∷ places) zero one within free = absurd cc
filled_set (None ∷ places) (suc i) one within free = filled_set places i one (omega arith) free
filled_set (Some other ∷ places) (suc i) one within free = ap suc (filled_set places i one (omega arith) free)

-- each has a place of its own
few_from : (snapshots : HeldSnapshots) (n count : ℕ) (held : HeldSnapshots) → AreHeldSnapshots snapshots → IsUpTo snapshots n held
    → length (held_from snapshots n count) + filled held.places ≤ most_places
few_from snapshots n zero held are is = omega (arith, filled_few held.places, is.count)
few_from snapshots n (suc count) held are is = elim (none_or_one (held_under snapshots (suc n))) [
  | inl none ↦ rw none (few_from snapshots (suc n) count held are (up_to_passes snapshots n held are is none))
  | inr found ↦
      let one : HeldSnapshot = found.0 in
      let more = few_from snapshots (suc n) count (put_back_at held one) are (up_to_put snapshots n held one are is found.1) in
      let places = is.count in
      let put = filled_set held.places (place_of one.snapshot.head.number) one (omega arith) (next_is_free snapshots n held one is found.1) in
      rw (found.1) (omega (arith, more, put))
]

-- all of them, from the lowest number on
pub in_order : (snapshots : HeldSnapshots) → by_number snapshots ≡ held_from snapshots 0 snapshots.newest
unfolding held_up_to
in_order snapshots = up_to_from snapshots 0 snapshots.newest snapshots.newest (omega arith)

-- so no more than 32 are held
pub few_are_held : (snapshots : HeldSnapshots) → AreHeldSnapshots snapshots → length (held_from snapshots 0 snapshots.newest) ≤ most_places
few_are_held snapshots are = let few = few_from snapshots 0 snapshots.newest (no_snapshots snapshots.ring) are (none_is_up_to snapshots are) in omega arith

-- ---- numbers

-- the next number meets its rule
pub next_is_slot : (snapshots : HeldSnapshots) (n count : ℕ) (held : HeldSnapshots) (one : HeldSnapshot) → HoldsNewest snapshots → IsUpTo snapshots n held
    → held_under snapshots (suc n) ≡ Some one → suc n + count ≡ snapshots.newest → one.snapshot.head.number ≤ last_number
    → is_slot held snapshots.newest (length (held_from snapshots (suc n) count)) one.snapshot.head.number ≡ true
next_is_slot snapshots n count held one holds is here ends most =
    let number : ℕ = one.snapshot.head.number in
    let left : ℕ = length (held_from snapshots (suc n) count) in
    let there = held_is_there snapshots (suc n) one here in
    let newest = is.newest in
    and_from (nat_lt held.newest number && nat_le number last_number && is_none (at_number held.places number)) (nat_lt 0 left || (number == snapshots.newest))
    (and_from (nat_lt held.newest number && nat_le number last_number) (is_none (at_number held.places number))
    (and_from (nat_lt held.newest number) (nat_le number last_number) (lt-ltb held.newest number (omega (arith, there.1))) (le-leb number last_number most))
    (ap is_none (next_is_free snapshots n held one is here)))
    (last_or_more snapshots n count number holds there.1 ends)
  where
    -- more are left, or it is the newest
    last_or_more : (snapshots : HeldSnapshots) (n count number : ℕ) → HoldsNewest snapshots → number ≡ suc n → suc n + count ≡ snapshots.newest
        → (nat_lt 0 (length (held_from snapshots (suc n) count)) || (number == snapshots.newest)) ≡ true
    last_or_more snapshots n zero number holds is ends =
        or_right (nat_lt 0 0) (number == snapshots.newest) (eq-eqb number snapshots.newest (omega arith))
    last_or_more snapshots n (suc count) number holds is ends =
        or_left (nat_lt 0 (length (held_from snapshots (suc n) (suc count)))) (number == snapshots.newest)
        (lt-ltb 0 (length (held_from snapshots (suc n) (suc count))) (some_left snapshots (suc n) count holds ends))

-- ---- ages

-- what holds of each that is held, place by place
pub each_at : (P : HeldSnapshot → Type 0) (places : List (Option HeldSnapshot)) (place : ℕ) → All (λ place. IfSome place P) places → IfSome (get_or places place None) P
each_at P places place each = elim (cases_lt place (length places)) [
  | inl within ↦ All-get_or (λ place. IfSome place P) places place None within each
  | inr past ↦ subst (λ o. IfSome o P) (sym (get_or_past places place None past)) tt
]

-- those above a number are at most of this age
pub record AreYounger (snapshots : HeldSnapshots) (n most : ℕ) : Type 0 where
  pub each : (place : ℕ) → IfSome (get_or snapshots.places place None) (λ other. n < other.snapshot.head.number → other.age ≤ most)

-- an age has 32 bits
pub all_are_younger : (profile : Profile) (snapshots : HeldSnapshots) → AreWellHeld profile snapshots → AreYounger snapshots 0 4294967295
all_are_younger profile snapshots are = record {
  each = λ place. IfSome_then (get_or snapshots.places place None) (each_at (IsHeldWell profile snapshots.ring) snapshots.places place are.each)
      (λ other well above. let age = well.age in omega arith);
}

-- those above the next number are among them
pub others_are_younger : (snapshots : HeldSnapshots) (n most : ℕ) → AreYounger snapshots n most → AreYounger snapshots (suc n) most
others_are_younger snapshots n most are = record {
  each = λ place. IfSome_then (get_or snapshots.places place None) (are.each place) (λ other age above. age (omega arith));
}

-- and those above one that is held are younger than it, by its entities
pub next_are_younger : (snapshots : HeldSnapshots) (n : ℕ) (one : HeldSnapshot) → AreHeldSnapshots snapshots → held_under snapshots (suc n) ≡ Some one
    → AreYounger snapshots (suc n) (one.age - length one.snapshot.entities)
next_are_younger snapshots n one are here =
    let there = held_is_there snapshots (suc n) one here in
    record {
      each = λ place.
          let older : IfSome (get_or snapshots.places place None) (IsOlder one) =
          subst (λ o. IfSome o (λ one. IfSome (get_or snapshots.places place None) (IsOlder one))) there.0 (are.ages (place_of (suc n)) place) in
          IfSome_then (get_or snapshots.places place None) older (λ other is above. let age = is (omega (arith, there.1)) in omega arith);
    }

-- ---- what is held under the next number

-- what is true of it
pub record IsNext (profile : Profile) (snapshots : HeldSnapshots) (n most : ℕ) (one : HeldSnapshot) : Type 0 where
  pub place : IsHeldIn snapshots.newest (place_of (suc n)) one
  pub well : IsHeldWell profile snapshots.ring one
  pub age : one.age ≤ most

-- so it is
pub next_is : (profile : Profile) (snapshots : HeldSnapshots) (n most : ℕ) (one : HeldSnapshot) → AreWellHeld profile snapshots → AreYounger snapshots n most
    → held_under snapshots (suc n) ≡ Some one → IsNext profile snapshots n most one
next_is profile snapshots n most one are young here =
    let there = held_is_there snapshots (suc n) one here in
    record {
      place = subst (λ o. IfSome o (IsHeldIn snapshots.newest (place_of (suc n)))) there.0 (are.held.each (place_of (suc n)));
      well = subst (λ o. IfSome o (IsHeldWell profile snapshots.ring)) there.0 (each_at (IsHeldWell profile snapshots.ring) snapshots.places (place_of (suc n)) are.each);
      age =
          let below : IfSome (Some one) (λ other. n < other.snapshot.head.number → other.age ≤ most) =
          subst (λ o. IfSome o (λ other. n < other.snapshot.head.number → other.age ≤ most)) there.0 (young.each (place_of (suc n))) in
          below (omega (arith, there.1));
    }

-- it has no more entities than its age lets it have
pub few_entities : (ring age : ℕ) (count : ℕ) → count ≤ most_entities → count ≤ age → (is_young ring age ≡ false → count ≡ 0) → count ≤ most_of ring age
few_entities ring age count few counted gone =
    cond_both (is_young ring age) (min most_entities age) 0 (λ most. count ≤ most) (λ young. omega arith) (λ old. let none = gone old in omega arith)
