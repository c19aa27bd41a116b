-- What is held after a snapshot that is accepted.
use Rattle.std.proofs.Common.{◌≡◌, ◌⊎◌, ℕ, ◌+◌, true, eqb, length, get_or, Option, Some, None, Ok, inl, inr, sym, ap, ◌∙◌, arith}
use Rattle.std.specs.Prelude.{option_map}
use Rattle.std.proofs.lemmas.Bool.{cases_Bool, cases_eq, eqb-true, le-leb, leb-true}
use Rattle.q3_entity_ring.specs.Snapshot.{Snapshot}
use Rattle.q3_entity_ring.specs.Places.{place_of, at_number}
use Rattle.q3_rings.specs.declared.rings.NoBase.TheVariants.{NeverHeld, Overwritten, EntitiesGone}
use Rattle.q3_rings.specs.Rings.{HeldSnapshot, HeldSnapshots, AreHeldSnapshots, is_young, young, snapshot_under, held_snapshot, older, accept_at}
use Rattle.q3_rings.proofs.Aging.{remains_head}
use Rattle.q3_rings.proofs.Accepting.{accept_other, accept_here}
use Rattle.q3_rings.proofs.Near.{ok, err, young_is}

-- one that is older and still there was there before
young_before : (ring count : ℕ) (one : HeldSnapshot) (held : Snapshot) → young ring (older ring count one) ≡ Ok held → young ring one ≡ Ok held
young_before ring count one held is = elim (cases_Bool (is_young ring (one.age + count))) [
  | inl there ↦
      let e : ok one.snapshot ≡ ok held = rw (there, there) at is in
      let le = leb-true _ _ there in
      let before : is_young ring one.age ≡ true = le-leb _ _ (omega arith) in
      rw before e
  | inr gone ↦ let e : err (EntitiesGone (one.age + count)) ≡ ok held = rw (gone, gone) at is in absurd cc
]

-- and under its number
under_before : (ring count number : ℕ) (place : Option HeldSnapshot) (held : Snapshot) → snapshot_under ring number (option_map (older ring count) place) ≡ Ok held
    → snapshot_under ring number place ≡ Ok held
under_before ring count number None held is = absurd cc
under_before ring count number (Some one) held is =
    let same : (older ring count one).snapshot.head.number ≡ one.snapshot.head.number = ap (λ head. head.number) (remains_head ring (record one { age = one.age + count })) in
    elim (cases_Bool (eqb one.snapshot.head.number number)) [
      | inl here ↦
          let e : young ring (older ring count one) ≡ Ok held = rw (same, here) at is in
          rw here (young_before ring count one held e)
      | inr other ↦ let e : err (Overwritten one.snapshot.head.number) ≡ ok held = rw (same, other) at is in absurd cc
    ]

-- what stands under its number in the place of the accepted one is that
under_accepted : (ring number : ℕ) (one : HeldSnapshot) (held : Snapshot) → snapshot_under ring number (Some one) ≡ Ok held
    → (number ≡ one.snapshot.head.number) × (held ≡ one.snapshot)
under_accepted ring number one held is = elim (cases_Bool (eqb one.snapshot.head.number number)) [
  | inl here ↦
      let e : young ring one ≡ Ok held = rw here at is in
      (sym (eqb-true _ _ here), sym (young_is ring one held e))
  | inr other ↦ let e : err (Overwritten one.snapshot.head.number) ≡ ok held = rw other at is in absurd cc
]

pub held_after : (snapshots : HeldSnapshots) (accepted : Snapshot) (number : ℕ) (held : Snapshot) → AreHeldSnapshots snapshots
    → held_snapshot (accept_at snapshots accepted) number ≡ Ok held
    → ((number ≡ accepted.head.number) × (held ≡ accepted))
    ⊎ ((number ≡ accepted.head.number → ⊥) × (held_snapshot snapshots number ≡ Ok held))
held_after snapshots accepted number held are is = elim (cases_Bool (eqb number 0)) [
  | inl zero ↦ let e : err NeverHeld ≡ ok held = rw zero at is in absurd cc
  | inr some ↦
      let under : snapshot_under snapshots.ring number (at_number (accept_at snapshots accepted).places number) ≡ Ok held = rw some at is in
      elim (cases_eq (place_of number) (place_of accepted.head.number)) [
        | inl here ↦
            let at : at_number (accept_at snapshots accepted).places number ≡ Some (record { snapshot = accepted; age = length accepted.entities }) =
            ap (λ place. get_or (accept_at snapshots accepted).places place None) here ∙ accept_here snapshots accepted are.count in
            inl (under_accepted snapshots.ring number (record { snapshot = accepted; age = length accepted.entities }) held
            (ap (snapshot_under snapshots.ring number) (sym at) ∙ under))
        | inr other ↦
            let before : snapshot_under snapshots.ring number (at_number snapshots.places number) ≡ Ok held =
            under_before snapshots.ring (length accepted.entities) number (at_number snapshots.places number) held
            (ap (snapshot_under snapshots.ring number) (sym (accept_other snapshots accepted (place_of number) other)) ∙ under) in
            inr ((λ same. other (ap place_of same)), rw some before)
      ]
]
