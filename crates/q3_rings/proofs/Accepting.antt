-- What is held stays what it is.
use Rattle.std.proofs.Common.{◌≡◌, ℕ, ◌+◌, ◌<◌, ◌≤◌, ◌≢◌, List, length, map, get_or, replicate, zero, suc, Option, Some, None, inl, inr, refl, sym, ap, ◌∙◌, subst, arith}
use Rattle.std.specs.Prelude.{IfSome, option_map}
use Rattle.std.proofs.lemmas.Bool.{cases_eq}
use Rattle.std.proofs.lemmas.List.{length-set, length-map, get_or-set_same, get_or-set_other}
use Rattle.std.proofs.Math.ListN.{get_or-map}
use Rattle.q3_entity_ring.specs.Snapshot.{Snapshot}
use Rattle.q3_entity_ring.specs.Places.{most_places, place_of, no_places, put_at_number}
use Rattle.q3_player.specs.declared.head.SnapHead.{SnapHead}
use Rattle.q3_rings.specs.Rings.{HeldSnapshot, HeldSnapshots, IsHeldIn, IsOlder, AreHeldSnapshots, CanPutBack, no_snapshots, older, accept_at, put_back_at}
use Rattle.q3_rings.proofs.Aging.{remains_head, remains_head_from, remains_few}

-- the number, the age and the entities of one that is older
record Grows (count : ℕ) (held old : HeldSnapshot) : Type 0 where
  head : old.snapshot.head ≡ held.snapshot.head
  age : old.age ≡ held.age + count
  few : length old.snapshot.entities ≤ length held.snapshot.entities

grows : (ring count : ℕ) (held : HeldSnapshot) → Grows count held (older ring count held)
grows ring count held =
    let more : HeldSnapshot = record held { age = held.age + count } in
    record {
      head = remains_head ring more;
      age = ap (λ (head : SnapHead × ℕ). head.1) (remains_head_from ring more);
      few = remains_few ring more;
    }

-- what was held in a place is held there after a higher number, and older
in_older : (ring count newest number place : ℕ) (held : Option HeldSnapshot) → newest ≤ number → IfSome held (IsHeldIn newest place) → IfSome (option_map (older ring count) held) (IsHeldIn number place)
in_older ring count newest number place None above is = tt
in_older ring count newest number place (Some held) above is =
    let grown = grows ring count held in
    let equal : (older ring count held).snapshot.head.number ≡ held.snapshot.head.number = ap (λ head. head.number) grown.head in
    record {
      here = ap place_of equal ∙ is.here;
      some = let some = is.some in omega arith;
      accepted = let accepted = is.accepted in omega arith;
      counted = let age = grown.age in let few = grown.few in let counted = is.counted in omega arith;
    }

-- ages keep their order
ages_grow : (ring count : ℕ) (one other : Option HeldSnapshot) → IfSome one (λ one. IfSome other (IsOlder one))
    → IfSome (option_map (older ring count) one) (λ one. IfSome (option_map (older ring count) other) (IsOlder one))
ages_grow ring count None other are = tt
ages_grow ring count (Some one) None are = tt
ages_grow ring count (Some one) (Some other) are =
    let grown = grows ring count one in
    let after = grows ring count other in
    let same : (older ring count one).snapshot.head.number ≡ one.snapshot.head.number = ap (λ head. head.number) grown.head in
    let equal : (older ring count other).snapshot.head.number ≡ other.snapshot.head.number = ap (λ head. head.number) after.head in
    λ lower.
    let before = are (omega arith) in
    let age = grown.age in
    let few = grown.few in
    let later = after.age in
    omega arith

-- all are older than the one that is accepted, which is older than none
older_than_new : (ring newest place : ℕ) (one : Option HeldSnapshot) (snapshot : Snapshot) → IfSome one (IsHeldIn newest place)
    → IfSome (option_map (older ring (length snapshot.entities)) one) (λ one. IsOlder one (record { snapshot = snapshot; age = length snapshot.entities }))
older_than_new ring newest place None snapshot is = tt
older_than_new ring newest place (Some one) snapshot is = λ lower.
    let grown = grows ring (length snapshot.entities) one in
    let age = grown.age in
    let few = grown.few in
    let counted = is.counted in
    omega arith

new_is_last : (place : ℕ) (other : Option HeldSnapshot) (held : HeldSnapshot) → IfSome other (IsHeldIn held.snapshot.head.number place) → IfSome other (IsOlder held)
new_is_last place None held is = tt
new_is_last place (Some other) held is = λ lower. let accepted = is.accepted in absurd (omega arith)

-- what stands in another place, and in that of the number
pub accept_other : (snapshots : HeldSnapshots) (snapshot : Snapshot) (place : ℕ) → place ≢ place_of snapshot.head.number
    → get_or (accept_at snapshots snapshot).places place None ≡ option_map (older snapshots.ring (length snapshot.entities)) (get_or snapshots.places place None)
accept_other snapshots snapshot place other =
    get_or-set_other (map (option_map (older snapshots.ring (length snapshot.entities))) snapshots.places) (place_of snapshot.head.number) place _ None other
    ∙ get_or-map (option_map (older snapshots.ring (length snapshot.entities))) snapshots.places place None

pub accept_here : (snapshots : HeldSnapshots) (snapshot : Snapshot) → length snapshots.places ≡ most_places
    → get_or (accept_at snapshots snapshot).places (place_of snapshot.head.number) None ≡ Some (record { snapshot = snapshot; age = length snapshot.entities })
accept_here snapshots snapshot count =
    get_or-set_same (map (option_map (older snapshots.ring (length snapshot.entities))) snapshots.places) (place_of snapshot.head.number) _ None
    (omega (arith, length-map snapshots.places (option_map (older snapshots.ring (length snapshot.entities)))))

each_stays : (snapshots : HeldSnapshots) (snapshot : Snapshot) (place : ℕ) → AreHeldSnapshots snapshots → snapshots.newest < snapshot.head.number
    → IfSome (get_or (accept_at snapshots snapshot).places place None) (IsHeldIn snapshot.head.number place)
each_stays snapshots snapshot place are newer = elim (cases_eq place (place_of snapshot.head.number)) [
  | inl here ↦
      let holds : IfSome (Some (record { snapshot = snapshot; age = length snapshot.entities })) (IsHeldIn snapshot.head.number (place_of snapshot.head.number)) =
      record { here = refl; some = omega arith; accepted = omega arith; counted = omega arith } in
      let at : IfSome (get_or (accept_at snapshots snapshot).places (place_of snapshot.head.number) None) (IsHeldIn snapshot.head.number (place_of snapshot.head.number)) =
      subst (λ o. IfSome o (IsHeldIn snapshot.head.number (place_of snapshot.head.number))) (sym (accept_here snapshots snapshot are.count)) holds in
      subst (λ place. IfSome (get_or (accept_at snapshots snapshot).places place None) (IsHeldIn snapshot.head.number place)) (sym here) at
  | inr other ↦
      subst (λ o. IfSome o (IsHeldIn snapshot.head.number place)) (sym (accept_other snapshots snapshot place other))
      (in_older snapshots.ring (length snapshot.entities) snapshots.newest snapshot.head.number place (get_or snapshots.places place None) (omega arith) (are.each place))
]

ages_stay : (snapshots : HeldSnapshots) (snapshot : Snapshot) (place other : ℕ) → AreHeldSnapshots snapshots → snapshots.newest < snapshot.head.number
    → IfSome (get_or (accept_at snapshots snapshot).places place None) (λ one. IfSome (get_or (accept_at snapshots snapshot).places other None) (IsOlder one))
ages_stay snapshots snapshot place other are newer =
    let new : HeldSnapshot = record { snapshot = snapshot; age = length snapshot.entities } in
    let at_new : (place : ℕ) → place ≡ place_of snapshot.head.number → get_or (accept_at snapshots snapshot).places place None ≡ Some new =
    λ place here. ap (λ place. get_or (accept_at snapshots snapshot).places place None) here ∙ accept_here snapshots snapshot are.count in
    let later : Option HeldSnapshot = get_or (accept_at snapshots snapshot).places other None in
    elim (cases_eq place (place_of snapshot.head.number)) [
      | inl here ↦
          subst (λ one. IfSome one (λ one. IfSome later (IsOlder one))) (sym (at_new place here))
          (new_is_last other later new (each_stays snapshots snapshot other are newer))
      | inr apart ↦
          let count = length snapshot.entities in
          let before : Option HeldSnapshot = option_map (older snapshots.ring count) (get_or snapshots.places place None) in
          subst (λ one. IfSome one (λ one. IfSome later (IsOlder one))) (sym (accept_other snapshots snapshot place apart))
          (elim (cases_eq other (place_of snapshot.head.number)) [
            | inl here ↦
                subst (λ later. IfSome before (λ one. IfSome later (IsOlder one))) (sym (at_new other here))
                (older_than_new snapshots.ring snapshots.newest place (get_or snapshots.places place None) snapshot (are.each place))
            | inr after ↦
                subst (λ later. IfSome before (λ one. IfSome later (IsOlder one))) (sym (accept_other snapshots snapshot other after))
                (ages_grow snapshots.ring count (get_or snapshots.places place None) (get_or snapshots.places other None) (are.ages place other))
          ])
    ]

pub accept_stays : (snapshots : HeldSnapshots) (snapshot : Snapshot) → AreHeldSnapshots snapshots → snapshots.newest < snapshot.head.number → AreHeldSnapshots (accept_at snapshots snapshot)
accept_stays snapshots snapshot are newer = record {
  ring = are.ring;
  count = length-set (map (option_map (older snapshots.ring (length snapshot.entities))) snapshots.places) (place_of snapshot.head.number) _ ∙ length-map snapshots.places _ ∙ are.count;
  each = λ place. each_stays snapshots snapshot place are newer;
  ages = λ place other. ages_stay snapshots snapshot place other are newer;
}

-- ---- what is put back

-- what holds of each place holds where one is put in its own
put_each : (places : List (Option HeldSnapshot)) (held : HeldSnapshot) (P : ℕ → Option HeldSnapshot → Type 0) → length places ≡ most_places
    → P (place_of held.snapshot.head.number) (Some held) → ((place : ℕ) → P place (get_or places place None))
    → (place : ℕ) → P place (get_or (put_at_number places held.snapshot.head.number held) place None)
put_each places held P count here each place =
    let own : ℕ = place_of held.snapshot.head.number in
    let new : List (Option HeldSnapshot) = put_at_number places held.snapshot.head.number held in
    elim (cases_eq place own) [
      | inl same ↦ subst (λ place. P place (get_or new place None)) (sym same) (subst (P own) (sym (get_or-set_same places own (Some held) None (omega arith))) here)
      | inr other ↦ subst (P place) (sym (get_or-set_other places own place (Some held) None other)) (each place)
    ]

-- what was held in a place is held there after a higher number
held_below : (newest number place : ℕ) (held : Option HeldSnapshot) → newest ≤ number → IfSome held (IsHeldIn newest place) → IfSome held (IsHeldIn number place)
held_below newest number place None above is = tt
held_below newest number place (Some held) above is = record {
  here = is.here;
  some = is.some;
  accepted = let accepted = is.accepted in omega arith;
  counted = is.counted;
}

-- all are older than the one that is put back
older_than_back : (one : Option HeldSnapshot) (held : HeldSnapshot) → IfSome one (λ one. length one.snapshot.entities + held.age ≤ one.age) → IfSome one (λ one. IsOlder one held)
older_than_back None held is = tt
older_than_back (Some one) held is = λ lower. is

pub put_back_stays : (snapshots : HeldSnapshots) (held : HeldSnapshot) → AreHeldSnapshots snapshots
    → CanPutBack snapshots held.snapshot.head.number held.age (length held.snapshot.entities) → AreHeldSnapshots (put_back_at snapshots held)
put_back_stays snapshots held are can =
    let number : ℕ = held.snapshot.head.number in
    let places = snapshots.places in
    let new : List (Option HeldSnapshot) = put_at_number places number held in
    let newer : snapshots.newest < number = can.newer in
    let each : (place : ℕ) → IfSome (get_or new place None) (IsHeldIn number place) =
    put_each places held (λ place one. IfSome one (IsHeldIn number place)) are.count
    (record { here = refl; some = omega arith; accepted = omega arith; counted = can.counted })
    (λ place. held_below snapshots.newest number place (get_or places place None) (omega arith) (are.each place)) in
    record {
      ring = are.ring;
      count = length-set places (place_of number) (Some held) ∙ are.count;
      each = each;
      ages = λ place other.
          put_each places held (λ place one. IfSome one (λ one. IfSome (get_or new other None) (IsOlder one))) are.count
          (new_is_last other (get_or new other None) held (each other))
          (λ place. put_each places held (λ other later. IfSome (get_or places place None) (λ one. IfSome later (IsOlder one))) are.count
          (older_than_back (get_or places place None) held (can.older place)) (λ other. are.ages place other) other)
          place;
    }

-- nothing is held
pub none_at : (count place : ℕ) → get_or {A = Option HeldSnapshot} (replicate count None) place None ≡ None
none_at zero place = refl
none_at (suc count) zero = refl
none_at (suc count) (suc place) = none_at count place

pub none_are_held : (ring : ℕ) → 512 ≤ ring → AreHeldSnapshots (no_snapshots ring)
none_are_held ring room = record {
  ring = room;
  count = refl;
  each = λ place. subst (λ o. IfSome o (IsHeldIn 0 place)) (sym (none_at most_places place)) tt;
  ages = λ place other. subst (λ o. IfSome o (λ one. IfSome (get_or no_places other None) (IsOlder one))) (sym (none_at most_places place)) tt;
}
