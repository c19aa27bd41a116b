-- The snapshots that are held, by rising number.
use Rattle.std.proofs.Common.{◌≡◌, ℕ, zero, suc, ◌+◌, ◌<◌, ◌≢◌, leb, eqb, eq-eqb, cond, Bool, true, false, List, [], ◌∷◌, length, get_or, Option, Some, None, inl, inr, refl, sym, ap, ◌∙◌, subst, arith}
use Rattle.std.specs.Prelude.{IfSome, option_map, is_some}
use Rattle.std.specs.List.{count_by}
use Rattle.std.proofs.lemmas.Bool.{cases_Bool, cases_eq, leb-true, leb-false, le-leb, lt-leb, ne_eqb}
use Rattle.std.proofs.lemmas.List.{length-append}
use Rattle.std.proofs.lemmas.List.Sums.{sum_by-cons}
use Rattle.std.proofs.Math.ListN.{get_or-map}
use Rattle.q3_entity_ring.specs.Places.{place_of}
use Rattle.q3_entity_ring.specs.declared.kept.Kept.{Kept}
use Rattle.q3_rings.specs.declared.rings.Rings.TheInside.{Inside}
use Rattle.q3_rings.specs.Rings.{HeldSnapshot, HeldSnapshots, RingsState, IsHeldIn, AreHeldSnapshots, is_young, held_remains}
use Rattle.q3_rings.specs.ByNumber.{of_number, held_under, one_of, held_up_to, by_number, GoneAreEmpty}
use Rattle.q3_rings.specs.KeptRings.{held_in, rings_in}
use Rattle.q3_rings.proofs.Kept.{as_held}

-- ---- what is gone

remains_gone : (ring : ℕ) (held : HeldSnapshot) → is_young ring (held_remains ring held).age ≡ false → (held_remains ring held).snapshot.entities ≡ []
remains_gone ring held old = elim (cases_Bool (is_young ring held.age)) [
  | inl young ↦
      let gone : is_young ring held.age ≡ false = rw young at old in
      cc
  | inr gone ↦ rw gone refl
]

gone_is_empty : (r : Inside) (place : Option Kept) → IfSome (option_map (as_held r.ring) place) (λ held. is_young (length r.ring.recent) held.age ≡ false → held.snapshot.entities ≡ [])
gone_is_empty r None = tt
gone_is_empty r (Some kept) = remains_gone (length r.ring.recent) (held_in r.ring kept)

pub none_is_left : (r : Inside) (rings : RingsState) → rings_in r ≡ rings → GoneAreEmpty rings.held
none_is_left r rings view = subst (λ (rings : RingsState). GoneAreEmpty rings.held) view (λ place.
    subst (λ held. IfSome held (λ held. is_young (length r.ring.recent) held.age ≡ false → held.snapshot.entities ≡ []))
    (sym (get_or-map (option_map (as_held r.ring)) r.places place None)) (gone_is_empty r (get_or r.places place None)))

-- ---- how many are held

abbrev bit : Bool → ℕ
bit test = cond test 1 0

-- how many pass two tests that tell one place apart at most
count_alike : {X : Type 0} (f g : X → Bool) (xs : List X) (d : X) → ((k : ℕ) → f (get_or xs k d) ≡ g (get_or xs k d)) → count_by f xs ≡ count_by g xs
count_alike f g [] d same = refl
count_alike f g (x ∷ xs) d same =
    sum_by-cons (λ x. cond (f x) 1 0) x xs
    ∙ ap (λ test. cond test 1 0 + count_by f xs) (same 0)
    ∙ ap (λ count. cond (g x) 1 0 + count) (count_alike f g xs d (λ k. same (suc k)))
    ∙ sym (sum_by-cons (λ x. cond (g x) 1 0) x xs)

count_apart : {X : Type 0} (f g : X → Bool) (xs : List X) (place : ℕ) (d : X) → place < length xs → ((k : ℕ) → k ≢ place → f (get_or xs k d) ≡ g (get_or xs k d))
    → count_by f xs + bit (g (get_or xs place d)) ≡ count_by g xs + bit (f (get_or xs place d))
count_apart f g [] place d within same = absurd (omega arith)
count_apart f g (x ∷ xs) zero d within same =
    let after = count_alike f g xs d (λ k. same (suc k) (omega arith)) in
    omega (arith, sum_by-cons (λ x. bit (f x)) x xs, sum_by-cons (λ x. bit (g x)) x xs)
count_apart f g (x ∷ xs) (suc place) d within same =
    let here : bit (f x) ≡ bit (g x) = ap bit (same 0 (omega arith)) in
    let after : count_by f xs + bit (g (get_or (x ∷ xs) (suc place) d)) ≡ count_by g xs + bit (f (get_or (x ∷ xs) (suc place) d)) =
    count_apart f g xs place d (omega arith) (λ k other. same (suc k) (omega arith)) in
    omega (arith, sum_by-cons (λ x. bit (f x)) x xs, sum_by-cons (λ x. bit (g x)) x xs)

-- whether one stands in a place, of a number up to this one
abbrev is_up_to : ℕ → Option HeldSnapshot → Bool
is_up_to number None = false
is_up_to number (Some held) = leb held.snapshot.head.number number

-- one whose number isn't the next one
up_to_alike : (newest number place : ℕ) (held : Option HeldSnapshot) → IfSome held (IsHeldIn newest place) → place ≢ place_of (suc number) → is_up_to (suc number) held ≡ is_up_to number held
up_to_alike newest number place None is other = refl
up_to_alike newest number place (Some held) is other = elim (cases_Bool (leb held.snapshot.head.number number)) [
  | inl before ↦
      let le = leb-true _ _ before in
      le-leb held.snapshot.head.number (suc number) (omega arith) ∙ sym before
  | inr after ↦
      let gt = leb-false _ _ after in
      let here = is.here in
      let apart : held.snapshot.head.number ≢ suc number = λ same. other (sym here ∙ ap place_of same) in
      lt-leb held.snapshot.head.number (suc number) (omega arith) ∙ sym after
]

-- what stands in the place of the next number
up_to_next : (number : ℕ) (held : Option HeldSnapshot) → cond (is_up_to (suc number) held) 1 0 ≡ cond (is_up_to number held) 1 0 + length (one_of (of_number (suc number) held))
up_to_next number None = refl
up_to_next number (Some held) = elim (cases_eq held.snapshot.head.number (suc number)) [
  | inl same ↦
      let first : leb held.snapshot.head.number (suc number) ≡ true = le-leb held.snapshot.head.number (suc number) (omega arith) in
      let second : leb held.snapshot.head.number number ≡ false = lt-leb held.snapshot.head.number number (omega arith) in
      let third : eqb held.snapshot.head.number (suc number) ≡ true = eq-eqb held.snapshot.head.number (suc number) same in
      rw (first, second, third) refl
  | inr other ↦
      let third : eqb held.snapshot.head.number (suc number) ≡ false = ne_eqb held.snapshot.head.number (suc number) other in
      rw third (elim (cases_Bool (leb held.snapshot.head.number number)) [
        | inl before ↦
            let le = leb-true _ _ before in
            let later : leb held.snapshot.head.number (suc number) ≡ true = le-leb held.snapshot.head.number (suc number) (omega arith) in
            rw (before, later) refl
        | inr after ↦
            let gt = leb-false _ _ after in
            let later : leb held.snapshot.head.number (suc number) ≡ false = lt-leb held.snapshot.head.number (suc number) (omega arith) in
            rw (after, later) refl
      ])
]

none_below : (newest place : ℕ) (held : Option HeldSnapshot) → IfSome held (IsHeldIn newest place) → is_up_to 0 held ≡ false
none_below newest place None is = refl
none_below newest place (Some held) is = let some = is.some in lt-leb held.snapshot.head.number 0 (omega arith)

count_none : (places : List (Option HeldSnapshot)) → count_by (λ place. false) places ≡ 0
count_none [] = refl
count_none (place ∷ places) = sum_by-cons (λ (place : Option HeldSnapshot). 0) place places ∙ ap (λ (count : ℕ). 0 + count) (count_none places)

length_up_to : (snapshots : HeldSnapshots) (number : ℕ) → AreHeldSnapshots snapshots → length (held_up_to snapshots number) ≡ count_by (is_up_to number) snapshots.places
unfolding held_up_to
length_up_to snapshots zero are =
    sym (count_alike (is_up_to 0) (λ held. false) snapshots.places None (λ place. none_below snapshots.newest place (get_or snapshots.places place None) (are.each place))
    ∙ count_none snapshots.places)
length_up_to snapshots (suc number) are =
    let before = length_up_to snapshots number are in
    let place : ℕ = place_of (suc number) in
    let count = are.count in
    let apart = count_apart (is_up_to (suc number)) (is_up_to number) snapshots.places place None (omega arith)
    (λ k other. up_to_alike snapshots.newest number k (get_or snapshots.places k None) (are.each k) other) in
    let next = up_to_next number (get_or snapshots.places place None) in
    omega (arith, length-append (held_up_to snapshots number) (one_of (held_under snapshots (suc number))))

all_up_to : (newest place : ℕ) (held : Option HeldSnapshot) → IfSome held (IsHeldIn newest place) → is_up_to newest held ≡ is_some held
all_up_to newest place None is = refl
all_up_to newest place (Some held) is = le-leb held.snapshot.head.number newest is.accepted

-- as many as places in which one stands
pub count_held : (snapshots : HeldSnapshots) → AreHeldSnapshots snapshots → length (by_number snapshots) ≡ count_by is_some snapshots.places
count_held snapshots are =
    length_up_to snapshots snapshots.newest are
    ∙ count_alike (is_up_to snapshots.newest) is_some snapshots.places None (λ place. all_up_to snapshots.newest place (get_or snapshots.places place None) (are.each place))
