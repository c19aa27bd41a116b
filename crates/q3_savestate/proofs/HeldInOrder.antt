-- Snapshots by rising number, from the lowest on, and what is put back of them up to a number.
use Rattle.std.proofs.Common.{◌≡◌, ◌≢◌, ◌⊎◌, ℕ, zero, suc, ◌+◌, ◌<◌, ◌≤◌, if◌then◌else◌, List, [], ◌++◌, length, get_or, Option, Some, None, inl, inr, refl, sym, ap, subst, ◌∙◌, append_assoc, arith, length-append}
use Rattle.std.specs.Prelude.{IfSome, MatchOption, nat_le, replicate}
use Rattle.std.proofs.lemmas.Bool.{cases_eq, cases_lt, eq-eqb, ne_eqb, le-leb, lt-leb}
use Rattle.std.proofs.lemmas.List.{append-nil, length-set, get_or-set_same, get_or-set_other, ext_get_or}
use Rattle.std.proofs.lemmas.Option.{IfSome_then}
use Rattle.q3_entity_ring.specs.Places.{most_places, place_of, at_number}
use Rattle.q3_rings.specs.Rings.{HeldSnapshot, HeldSnapshots, IsHeldIn, AreHeldSnapshots, no_snapshots, put_back_at}
use Rattle.q3_rings.specs.ByNumber.{of_number, held_under, one_of, held_up_to, HoldsNewest}

-- one or none
pub none_or_one : {X : Type 0} (o : Option X) → (o ≡ None) ⊎ ((x : X) × (o ≡ Some x))
none_or_one None = inl refl
none_or_one (Some x) = inr (x, refl)

-- ---- from the lowest number on

-- those of the next so many numbers above one
abbrev pub held_from : HeldSnapshots → ℕ → ℕ → List HeldSnapshot
held_from snapshots n zero = []
held_from snapshots n (suc count) = one_of (held_under snapshots (suc n)) ++ held_from snapshots (suc n) count

-- those up to a number, and those of so many above it
pub up_to_from : (snapshots : HeldSnapshots) (n count m : ℕ) → m ≡ n + count → held_up_to snapshots m ≡ held_up_to snapshots n ++ held_from snapshots n count
unfolding held_up_to
up_to_from snapshots n zero m is =
    let same : m ≡ n = omega arith in
    ap (held_up_to snapshots) same ∙ sym (append-nil (held_up_to snapshots n))
up_to_from snapshots n (suc count) m is =
    up_to_from snapshots (suc n) count m (omega arith)
    ∙ append_assoc (held_up_to snapshots n) (one_of (held_under snapshots (suc n))) (held_from snapshots (suc n) count)

-- ---- what is held under a number

-- what is held under a number is what stands in its place, and has that number
under_one : (number : ℕ) (o : Option HeldSnapshot) (one : HeldSnapshot) → of_number number o ≡ Some one → (o ≡ Some one) × (one.snapshot.head.number ≡ number)
under_one number None one is = absurd cc
under_one number (Some held) one is = elim (cases_eq held.snapshot.head.number number) [
  | inl same ↦
      let passes : of_number number (Some held) ≡ Some held = rw (eq-eqb held.snapshot.head.number number same) refl in
      let equal : held ≡ one = cc in
      (ap (λ held. Some held) equal, ap (λ (held : HeldSnapshot). held.snapshot.head.number) (sym equal) ∙ same)
  | inr other ↦
      let fails : of_number number (Some held) ≡ None = rw (ne_eqb held.snapshot.head.number number other) refl in
      absurd cc
]

-- it stands in the place of the number
pub held_is_there : (snapshots : HeldSnapshots) (number : ℕ) (one : HeldSnapshot) → held_under snapshots number ≡ Some one
    → (at_number snapshots.places number ≡ Some one) × (one.snapshot.head.number ≡ number)
held_is_there snapshots number one is = under_one number (at_number snapshots.places number) one is

-- where none is, what stands there has another number
under_none : (number : ℕ) (o : Option HeldSnapshot) → of_number number o ≡ None → IfSome o (λ one. one.snapshot.head.number ≢ number)
under_none number None is = tt
under_none number (Some held) is = λ same.
    let passes : of_number number (Some held) ≡ Some held = rw (eq-eqb held.snapshot.head.number number same) refl in
    cc

-- what stands in another place has another number
elsewhere : (newest place number : ℕ) (o : Option HeldSnapshot) → place ≢ place_of number → IfSome o (IsHeldIn newest place) → IfSome o (λ one. one.snapshot.head.number ≢ number)
elsewhere newest place number None other is = tt
elsewhere newest place number (Some one) other is = λ same. other (sym is.here ∙ ap place_of same)

-- where none is held under a number, none has it
pub none_has_number : (snapshots : HeldSnapshots) (number : ℕ) → AreHeldSnapshots snapshots → held_under snapshots number ≡ None
    → (place : ℕ) → IfSome (get_or snapshots.places place None) (λ one. one.snapshot.head.number ≢ number)
none_has_number snapshots number are none place = elim (cases_eq place (place_of number)) [
  | inl same ↦
      subst (λ place. IfSome (get_or snapshots.places place None) (λ one. one.snapshot.head.number ≢ number)) (sym same)
      (under_none number (at_number snapshots.places number) none)
  | inr other ↦ elsewhere snapshots.newest place number (get_or snapshots.places place None) other (are.each place)
]

-- the newest is held, where any is
newest_stands : (newest : ℕ) (o : Option HeldSnapshot) → MatchOption o ⊥ (λ one. one.snapshot.head.number ≡ newest) → (one : HeldSnapshot) × (of_number newest o ≡ Some one)
newest_stands newest None stands = absurd stands
newest_stands newest (Some one) stands = (one, rw (eq-eqb one.snapshot.head.number newest stands) refl)

-- and it is held under its number
pub newest_is_held : (snapshots : HeldSnapshots) → HoldsNewest snapshots → 0 < snapshots.newest → (one : HeldSnapshot) × (held_under snapshots snapshots.newest ≡ Some one)
newest_is_held snapshots holds some = elim holds [
  | inl none ↦ absurd (omega arith)
  | inr stands ↦ newest_stands snapshots.newest (at_number snapshots.places snapshots.newest) stands
]

-- so some are left up to there
pub some_left : (snapshots : HeldSnapshots) (n count : ℕ) → HoldsNewest snapshots → n + suc count ≡ snapshots.newest → 0 < length (held_from snapshots n (suc count))
some_left snapshots n zero holds ends =
    let newest = newest_is_held snapshots holds (omega arith) in
    let here : held_under snapshots (suc n) ≡ Some newest.0 = subst (λ number. held_under snapshots number ≡ Some newest.0) (omega arith) newest.1 in
    rw here (omega arith)
some_left snapshots n (suc count) holds ends =
    let more = some_left snapshots (suc n) count holds (omega arith) in
    omega (arith, more, length-append (one_of (held_under snapshots (suc n))) (held_from snapshots (suc n) (suc count)))

-- ---- those up to a number

-- what is in a place, if its number is up to this one
abbrev pub up_to : ℕ → Option HeldSnapshot → Option HeldSnapshot
up_to n None = None
up_to n (Some one) = if nat_le one.snapshot.head.number n then Some one else None

-- what was put back up to a number
pub record IsUpTo (snapshots : HeldSnapshots) (n : ℕ) (held : HeldSnapshots) : Type 0 where
  pub ring : held.ring ≡ snapshots.ring
  pub count : length held.places ≡ most_places
  pub newest : held.newest ≤ n
  pub places : (place : ℕ) → get_or held.places place None ≡ up_to n (get_or snapshots.places place None)
  pub below : (place : ℕ) → IfSome (get_or held.places place None) (λ one. one.snapshot.head.number ≤ held.newest)

-- none at first
pub nothing_at : (count place : ℕ) → get_or {A = Option HeldSnapshot} (replicate count None) place None ≡ None
nothing_at zero place = refl
nothing_at (suc count) zero = refl
nothing_at (suc count) (suc place) = nothing_at count place

-- no number is 0
up_to_none : (newest place : ℕ) (o : Option HeldSnapshot) → IfSome o (IsHeldIn newest place) → up_to 0 o ≡ None
up_to_none newest place None is = refl
up_to_none newest place (Some one) is = rw (lt-leb one.snapshot.head.number 0 is.some) refl

-- so where nothing was put back, all up to 0 was
pub none_is_up_to : (snapshots : HeldSnapshots) → AreHeldSnapshots snapshots → IsUpTo snapshots 0 (no_snapshots snapshots.ring)
none_is_up_to snapshots are = record {
  ring = refl;
  count = refl;
  newest = omega arith;
  places = λ place. nothing_at most_places place ∙ sym (up_to_none snapshots.newest place (get_or snapshots.places place None) (are.each place));
  below = λ place. subst (λ o. IfSome o (λ one. one.snapshot.head.number ≤ 0)) (sym (nothing_at most_places place)) tt;
}

-- where none has the next number, nothing is to be put back for it
up_to_next : (n : ℕ) (o : Option HeldSnapshot) → IfSome o (λ one. one.snapshot.head.number ≢ suc n) → up_to n o ≡ up_to (suc n) o
up_to_next n None other = refl
up_to_next n (Some one) other = elim (cases_lt n one.snapshot.head.number) [
  | inl above ↦ rw (lt-leb one.snapshot.head.number n above, lt-leb one.snapshot.head.number (suc n) (omega arith)) refl
  | inr within ↦ rw (le-leb one.snapshot.head.number n within, le-leb one.snapshot.head.number (suc n) (omega arith)) refl
]

-- so what was put back up to one number was up to the next
pub up_to_passes : (snapshots : HeldSnapshots) (n : ℕ) (held : HeldSnapshots) → AreHeldSnapshots snapshots → IsUpTo snapshots n held → held_under snapshots (suc n) ≡ None
    → IsUpTo snapshots (suc n) held
up_to_passes snapshots n held are is none = record {
  ring = is.ring;
  count = is.count;
  newest = let newest = is.newest in omega arith;
  places = λ place. is.places place ∙ up_to_next n (get_or snapshots.places place None) (none_has_number snapshots (suc n) are none place);
  below = is.below;
}

-- the place of the next number is free
pub next_is_free : (snapshots : HeldSnapshots) (n : ℕ) (held : HeldSnapshots) (one : HeldSnapshot) → IsUpTo snapshots n held → held_under snapshots (suc n) ≡ Some one
    → at_number held.places one.snapshot.head.number ≡ None
next_is_free snapshots n held one is here =
    let there = held_is_there snapshots (suc n) one here in
    ap (at_number held.places) there.1 ∙ is.places (place_of (suc n)) ∙ ap (up_to n) there.0 ∙ rw (lt-leb one.snapshot.head.number n (omega (arith, there.1))) refl

-- what is put back under the next number
put_places : (snapshots : HeldSnapshots) (n : ℕ) (held : HeldSnapshots) (one : HeldSnapshot) (place : ℕ) → AreHeldSnapshots snapshots → IsUpTo snapshots n held
    → held_under snapshots (suc n) ≡ Some one → get_or (put_back_at held one).places place None ≡ up_to (suc n) (get_or snapshots.places place None)
put_places snapshots n held one place are is here =
    let own : ℕ = place_of one.snapshot.head.number in
    let there = held_is_there snapshots (suc n) one here in
    let count = is.count in
    elim (cases_eq place own) [
      | inl same ↦
          let put : get_or (put_back_at held one).places place None ≡ Some one =
          ap (λ place. get_or (put_back_at held one).places place None) same ∙ get_or-set_same held.places own (Some one) None (omega arith) in
          let stands : get_or snapshots.places place None ≡ Some one = ap (λ place. get_or snapshots.places place None) (same ∙ ap place_of there.1) ∙ there.0 in
          let passes : up_to (suc n) (Some one) ≡ Some one = rw (le-leb one.snapshot.head.number (suc n) (omega (arith, there.1))) refl in
          put ∙ sym (ap (up_to (suc n)) stands ∙ passes)
      | inr other ↦
          get_or-set_other held.places own place (Some one) None other ∙ is.places place
          ∙ up_to_next n (get_or snapshots.places place None)
          (elsewhere snapshots.newest place (suc n) (get_or snapshots.places place None) (λ same. other (same ∙ ap place_of (sym there.1))) (are.each place))
    ]

-- none is above it
put_below : (place : ℕ) (held : HeldSnapshots) (one : HeldSnapshot) → length held.places ≡ most_places → held.newest ≤ one.snapshot.head.number
    → IfSome (get_or held.places place None) (λ one. one.snapshot.head.number ≤ held.newest)
    → IfSome (get_or (put_back_at held one).places place None) (λ other. other.snapshot.head.number ≤ one.snapshot.head.number)
put_below place held one count above below =
    let own : ℕ = place_of one.snapshot.head.number in
    let IsBelow : Option HeldSnapshot → Type 0 = λ o. IfSome o (λ other. other.snapshot.head.number ≤ one.snapshot.head.number) in
    elim (cases_eq place own) [
      | inl same ↦
          subst (λ place. IsBelow (get_or (put_back_at held one).places place None)) (sym same)
          (subst IsBelow (sym (get_or-set_same held.places own (Some one) None (omega arith))) (omega arith))
      | inr other ↦
          subst IsBelow (sym (get_or-set_other held.places own place (Some one) None other))
          (IfSome_then (get_or held.places place None) below (λ other within. omega arith))
    ]

-- with it all up to that number were put back
pub up_to_put : (snapshots : HeldSnapshots) (n : ℕ) (held : HeldSnapshots) (one : HeldSnapshot) → AreHeldSnapshots snapshots → IsUpTo snapshots n held
    → held_under snapshots (suc n) ≡ Some one → IsUpTo snapshots (suc n) (put_back_at held one)
up_to_put snapshots n held one are is here =
    let there = held_is_there snapshots (suc n) one here in
    let newest = is.newest in
    record {
      ring = is.ring;
      count = length-set held.places (place_of one.snapshot.head.number) (Some one) ∙ is.count;
      newest = omega (arith, there.1);
      places = λ place. put_places snapshots n held one place are is here;
      below = λ place. put_below place held one is.count (omega (arith, there.1)) (is.below place);
    }

-- all of them
up_to_all : (newest place : ℕ) (o : Option HeldSnapshot) → IfSome o (IsHeldIn newest place) → up_to newest o ≡ o
up_to_all newest place None is = refl
up_to_all newest place (Some one) is = rw (le-leb one.snapshot.head.number newest is.accepted) refl

-- among them the newest
newest_same : (snapshots held : HeldSnapshots) → HoldsNewest snapshots → IsUpTo snapshots snapshots.newest held
    → ((place : ℕ) → get_or held.places place None ≡ get_or snapshots.places place None) → held.newest ≡ snapshots.newest
newest_same snapshots held holds is same = elim (cases_lt 0 snapshots.newest) [
  | inr none ↦ let newest = is.newest in omega arith
  | inl some ↦
      let one = newest_is_held snapshots holds some in
      let there = held_is_there snapshots snapshots.newest one.0 one.1 in
      let below : IfSome (Some one.0) (λ other. other.snapshot.head.number ≤ held.newest) =
      subst (λ o. IfSome o (λ other. other.snapshot.head.number ≤ held.newest)) (same (place_of snapshots.newest) ∙ there.0) (is.below (place_of snapshots.newest)) in
      let newest = is.newest in
      omega (arith, there.1, below)
]

-- so what was put back up to the newest is all that is held
pub up_to_newest : (snapshots held : HeldSnapshots) → AreHeldSnapshots snapshots → HoldsNewest snapshots → IsUpTo snapshots snapshots.newest held → held ≡ snapshots
up_to_newest snapshots held are holds is =
    let same : (place : ℕ) → get_or held.places place None ≡ get_or snapshots.places place None =
    λ place. is.places place ∙ up_to_all snapshots.newest place (get_or snapshots.places place None) (are.each place) in
    let places : held.places ≡ snapshots.places = ext_get_or None held.places snapshots.places (is.count ∙ sym are.count) (λ place within. same place) in
    let newest : held.newest ≡ snapshots.newest = newest_same snapshots held holds is same in
    ap (λ (ring : ℕ). record { ring = ring; newest = held.newest; places = held.places }) is.ring
    ∙ ap (λ (newest : ℕ). record { ring = snapshots.ring; newest = newest; places = held.places }) newest
    ∙ ap (λ (places : List (Option HeldSnapshot)). record { ring = snapshots.ring; newest = snapshots.newest; places = places }) places
