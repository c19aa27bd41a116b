-- Snapshots that are put back by rising number: what is held so far, and in what order.
use Rattle.std.proofs.Common.{◌≡◌, ◌≢◌, ℕ, zero, suc, ◌+◌, ◌-◌, ◌^◌, ◌<◌, ◌≤◌, ◌==◌, ◌&&◌, ◌||◌, true, false, [], ◌∷◌, ◌++◌, length, get_or, Option, Some, None, inl, inr, refl, sym, ap, subst, ◌∙◌, arith}
use Rattle.std.specs.Prelude.{IfSome, MatchOption, min, nat_lt, nat_le}
use Rattle.std.specs.Option.{is_none}
use Rattle.std.proofs.lemmas.Bool.{cases_eq, eq-eqb, eqb-true, ne_eqb, and_parts, or_cases, ltb-true, leb-true, both_ways, cond_both}
use Rattle.std.proofs.lemmas.List.{append-nil, get_or-set_same, get_or-set_other, nil_from_length}
use Rattle.std.proofs.lemmas.List.Elements.{All-replicate, All-set}
use Rattle.std.proofs.lemmas.Option.{IfSome_then}
use Rattle.q3_entity.specs.Entities.{most_entities}
use Rattle.q3_entity_ring.specs.Places.{most_places, place_of, at_number}
use Rattle.q3_rings.specs.Rings.{HeldSnapshot, HeldSnapshots, IsHeldIn, AreHeldSnapshots, CanPutBack, is_young, no_snapshots, put_back_at}
use Rattle.q3_rings.specs.ByNumber.{of_number, held_under, held_up_to, by_number}
use Rattle.q3_rings.specs.Laws.{SnapshotsStay}
use Rattle.q3_profile.specs.declared.profile.Profile.{Profile}
use Rattle.q3_savestate.specs.Snapshots.{last_number, is_slot, most_of}
use Rattle.q3_savestate.specs.Standing.{IsHeldWell, AreWellHeld}
use Rattle.q3_savestate.proofs.PartsRead.{AreRising}
use Rattle.q3_savestate.proofs.Heads.{IsHead}
use Rattle.q3_savestate.proofs.HeldInOrder.{held_from, up_to_from, nothing_at}

-- ---- the order

-- the one that was put back is held under its number
put_is_held : (held : HeldSnapshots) (one : HeldSnapshot) → length held.places ≡ most_places → held_under (put_back_at held one) one.snapshot.head.number ≡ Some one
put_is_held held one count =
    let number : ℕ = one.snapshot.head.number in
    ap (of_number number) (get_or-set_same held.places (place_of number) (Some one) None (omega arith)) ∙ rw (eq-eqb number number refl) refl

-- and others are held as before
of_another : (number : ℕ) (one : HeldSnapshot) → number ≢ one.snapshot.head.number → of_number number (Some one) ≡ None
of_another number one other = rw (ne_eqb one.snapshot.head.number number (λ same. other (sym same))) refl

-- under another number
put_under : (held : HeldSnapshots) (one : HeldSnapshot) (number : ℕ) → length held.places ≡ most_places → at_number held.places one.snapshot.head.number ≡ None
    → number ≢ one.snapshot.head.number → held_under (put_back_at held one) number ≡ held_under held number
put_under held one number count free other =
    let own : ℕ = place_of one.snapshot.head.number in
    elim (cases_eq (place_of number) own) [
      | inl same ↦
          let put : at_number (put_back_at held one).places number ≡ Some one =
          ap (λ place. get_or (put_back_at held one).places place None) same ∙ get_or-set_same held.places own (Some one) None (omega arith) in
          let none : at_number held.places number ≡ None = ap (λ place. get_or held.places place None) same ∙ free in
          ap (of_number number) put ∙ of_another number one other ∙ sym (ap (of_number number) none)
      | inr apart ↦ ap (of_number number) (get_or-set_other held.places own (place_of number) (Some one) None apart)
    ]

-- up to a lower number
put_up_to : (held : HeldSnapshots) (one : HeldSnapshot) (number : ℕ) → length held.places ≡ most_places → at_number held.places one.snapshot.head.number ≡ None
    → number < one.snapshot.head.number → held_up_to (put_back_at held one) number ≡ held_up_to held number
unfolding held_up_to
put_up_to held one zero count free below = refl
put_up_to held one (suc number) count free below =
    let front = put_up_to held one number count free (omega arith) in
    let last = put_under held one (suc number) count free (omega arith) in
    rw (front, last) refl

-- none is held above the newest
not_above : (newest number place : ℕ) (o : Option HeldSnapshot) → newest < number → IfSome o (IsHeldIn newest place) → of_number number o ≡ None
not_above newest number place None above is = refl
not_above newest number place (Some one) above is = let accepted = is.accepted in of_another number one (omega arith)

-- so nothing is left after it
none_from : (held : HeldSnapshots) (n count : ℕ) → AreHeldSnapshots held → held.newest ≤ n → held_from held n count ≡ []
none_from held n zero are above = refl
none_from held n (suc count) are above =
    let none = not_above held.newest (suc n) (place_of (suc n)) (at_number held.places (suc n)) (omega arith) (are.each (place_of (suc n))) in
    rw none (none_from held (suc n) count are (omega arith))

-- and all are those up to any higher number
up_to_above : (held : HeldSnapshots) (n : ℕ) → AreHeldSnapshots held → held.newest ≤ n → held_up_to held n ≡ by_number held
up_to_above held n are above =
    up_to_from held held.newest (n - held.newest) n (omega arith)
    ∙ ap (λ others. by_number held ++ others) (none_from held held.newest (n - held.newest) are (omega arith))
    ∙ append-nil (by_number held)

-- what is put back stands after all others
last_is : (held : HeldSnapshots) (one : HeldSnapshot) (n : ℕ) → one.snapshot.head.number ≡ suc n → AreHeldSnapshots held → held.newest < one.snapshot.head.number
    → at_number held.places one.snapshot.head.number ≡ None → held_up_to (put_back_at held one) (suc n) ≡ by_number held ++ one ∷ []
unfolding held_up_to
last_is held one n is are newer free =
    let front : held_up_to (put_back_at held one) n ≡ by_number held = put_up_to held one n are.count free (omega arith) ∙ up_to_above held n are (omega arith) in
    let last : held_under (put_back_at held one) (suc n) ≡ Some one = subst (λ number. held_under (put_back_at held one) number ≡ Some one) is (put_is_held held one are.count) in
    rw (front, last) refl

-- after all of them
pub put_is_last : (held : HeldSnapshots) (one : HeldSnapshot) → AreHeldSnapshots held → held.newest < one.snapshot.head.number
    → at_number held.places one.snapshot.head.number ≡ None → by_number (put_back_at held one) ≡ by_number held ++ one ∷ []
put_is_last held one are newer free =
    let is : one.snapshot.head.number ≡ suc (one.snapshot.head.number - 1) = omega arith in
    ap (held_up_to (put_back_at held one)) is ∙ last_is held one (one.snapshot.head.number - 1) is are newer free

-- ---- one that was read

-- what a number tells that met its rule
pub record IsNewer (held : HeldSnapshots) (newest left number : ℕ) : Type 0 where
  pub newer : held.newest < number
  pub most : number ≤ last_number
  pub free : at_number held.places number ≡ None
  pub last : left ≡ 0 → number ≡ newest

-- where its test passes, it is so
pub is_newer : (held : HeldSnapshots) (newest left number : ℕ) → is_slot held newest left number ≡ true → IsNewer held newest left number
is_newer held newest left number may =
    let four = and_parts (nat_lt held.newest number && nat_le number last_number && is_none (at_number held.places number)) (nat_lt 0 left || (number == newest)) may in
    let three = and_parts (nat_lt held.newest number && nat_le number last_number) (is_none (at_number held.places number)) four.0 in
    let two = and_parts (nat_lt held.newest number) (nat_le number last_number) three.0 in
    record {
      newer = ltb-true held.newest number two.0;
      most = leb-true number last_number two.1;
      free = is_free (at_number held.places number) three.1;
      last = λ none. elim (or_cases (nat_lt 0 left) (number == newest) four.1) [
        | inl more ↦ absurd (omega (arith, ltb-true 0 left more))
        | inr same ↦ eqb-true number newest same
      ];
    }
  where
    is_free : (o : Option HeldSnapshot) → is_none o ≡ true → o ≡ None
    is_free None is = refl
    is_free (Some one) is = absurd cc

-- what its count of entities tells
few_of : (ring age count : ℕ) → count ≤ most_of ring age → (count ≤ most_entities) × (count ≤ age) × (is_young ring age ≡ false → count ≡ 0)
few_of ring age count =
    cond_both (is_young ring age) (min most_entities age) 0 (λ most. count ≤ most → (count ≤ most_entities) × (count ≤ age) × (is_young ring age ≡ false → count ≡ 0))
    (λ young below. (omega arith, omega arith, λ old. absurd (both_ways (is_young ring age) old young)))
    (λ old below. (omega arith, omega arith, λ old. omega arith))

-- what was read as a snapshot after others
pub record IsReadNext (profile : Profile) (held : HeldSnapshots) (newest left most : ℕ) (one : HeldSnapshot) : Type 0 where
  pub may : is_slot held newest left one.snapshot.head.number ≡ true
  pub young : one.age ≤ most
  pub fits : one.age < 2 ^ 32
  pub head : IsHead profile one.snapshot.head
  pub few : length one.snapshot.entities ≤ most_of held.ring one.age
  pub entities : AreRising profile.entity (length one.snapshot.entities) 0 one.snapshot.entities

-- it is well held
is_well : (profile : Profile) (held : HeldSnapshots) (newest left most : ℕ) (one : HeldSnapshot) → IsReadNext profile held newest left most one → IsHeldWell profile held.ring one
is_well profile held newest left most one is =
    let number = is_newer held newest left one.snapshot.head.number is.may in
    let few = few_of held.ring one.age (length one.snapshot.entities) is.few in
    record {
      number = omega (arith, number.most);
      time = is.head.time;
      flags = is.head.flags;
      area = is.head.area;
      short = is.head.short;
      player = is.head.player.0;
      normal_player = is.head.player.1;
      entities = record { rise = is.entities.rise; few = few.0 };
      states = is.entities.states;
      normal = is.entities.normal;
      gone = λ old. nil_from_length one.snapshot.entities (few.2 old);
      age = is.fits;
    }

-- ---- what is held so far

-- what is held so far is well held, and the next of at most this age may be put back
pub record IsSoFar (profile : Profile) (most : ℕ) (held : HeldSnapshots) : Type 0 where
  pub well : AreWellHeld profile held
  pub older : (place : ℕ) → IfSome (get_or held.places place None) (λ one. length one.snapshot.entities + most ≤ one.age)

-- where nothing was read
pub none_so_far : (profile : Profile) (most : ℕ) → SnapshotsStay → 512 ≤ profile.parse_ring → IsSoFar profile most (no_snapshots profile.parse_ring)
none_so_far profile most stay room = record {
  well = record {
    room = refl;
    held = stay.none profile.parse_ring room;
    newest = inl refl;
    each = All-replicate (λ place. IfSome place (IsHeldWell profile profile.parse_ring)) most_places None tt;
  };
  older = λ place. subst (λ o. IfSome o (λ one. length one.snapshot.entities + most ≤ one.age)) (sym (nothing_at most_places place)) tt;
}

-- what is read next may be put back
can_put_back : (profile : Profile) (held : HeldSnapshots) (newest left most : ℕ) (one : HeldSnapshot) → IsSoFar profile most held → IsReadNext profile held newest left most one
    → CanPutBack held one.snapshot.head.number one.age (length one.snapshot.entities)
can_put_back profile held newest left most one so_far is =
    let few = few_of held.ring one.age (length one.snapshot.entities) is.few in
    let young = is.young in
    record {
      newer = (is_newer held newest left one.snapshot.head.number is.may).newer;
      few = few.0;
      counted = few.1;
      gone = few.2;
      older = λ place. IfSome_then (get_or held.places place None) (so_far.older place) (λ other older. omega arith);
    }

-- one more is well held
well_put : (profile : Profile) (held : HeldSnapshots) (newest left most : ℕ) (one : HeldSnapshot) → SnapshotsStay → IsSoFar profile most held
    → IsReadNext profile held newest left most one → AreWellHeld profile (put_back_at held one)
well_put profile held newest left most one stay so_far is =
    let number : ℕ = one.snapshot.head.number in
    let count = so_far.well.held.count in
    record {
      room = so_far.well.room;
      held = stay.put_back held one so_far.well.held (can_put_back profile held newest left most one so_far is);
      newest = inr (subst (λ o. MatchOption o ⊥ (λ (other : HeldSnapshot). other.snapshot.head.number ≡ number))
          (sym (get_or-set_same held.places (place_of number) (Some one) None (omega arith))) refl);
      each = All-set (λ place. IfSome place (IsHeldWell profile held.ring)) held.places (place_of number) (Some one) (is_well profile held newest left most one is) so_far.well.each;
    }

-- all others are older than the next may be
older_put : (profile : Profile) (held : HeldSnapshots) (newest left most place : ℕ) (one : HeldSnapshot) → IsSoFar profile most held → IsReadNext profile held newest left most one
    → IfSome (get_or (put_back_at held one).places place None) (λ other. length other.snapshot.entities + (one.age - length one.snapshot.entities) ≤ other.age)
older_put profile held newest left most place one so_far is =
    let own : ℕ = place_of one.snapshot.head.number in
    let IsOld : Option HeldSnapshot → Type 0 = λ o. IfSome o (λ other. length other.snapshot.entities + (one.age - length one.snapshot.entities) ≤ other.age) in
    let count = so_far.well.held.count in
    let few = few_of held.ring one.age (length one.snapshot.entities) is.few in
    let young = is.young in
    elim (cases_eq place own) [
      | inl same ↦
          subst (λ place. IsOld (get_or (put_back_at held one).places place None)) (sym same)
          (subst IsOld (sym (get_or-set_same held.places own (Some one) None (omega arith))) (omega (arith, few.1)))
      | inr other ↦
          subst IsOld (sym (get_or-set_other held.places own place (Some one) None other))
          (IfSome_then (get_or held.places place None) (so_far.older place) (λ other older. omega arith))
    ]

-- one more is held so far
pub one_more_so_far : (profile : Profile) (held : HeldSnapshots) (newest left most : ℕ) (one : HeldSnapshot) → SnapshotsStay → IsSoFar profile most held
    → IsReadNext profile held newest left most one → IsSoFar profile (one.age - length one.snapshot.entities) (put_back_at held one)
one_more_so_far profile held newest left most one stay so_far is = record {
  well = well_put profile held newest left most one stay so_far is;
  older = λ place. older_put profile held newest left most place one so_far is;
}
