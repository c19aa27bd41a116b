-- What is accepted is one more of all that were accepted.
use Rattle.std.proofs.Common.{◌≡◌, ℕ, ◌+◌, ◌<◌, ◌≤◌, ◌≢◌, false, List, [], ◌∷◌, ◌++◌, length, get_or, Option, Some, None, inl, inr, refl, sym, ap, ◌∙◌, arith}
use Rattle.std.specs.Prelude.{IfSome, option_map, unwrap_or}
use Rattle.std.specs.List.{filter, sum_by, last_or}
use Rattle.std.proofs.lemmas.Bool.{cases_eq, eq-eqb, ne_eqb, le-leb, lt-leb}
use Rattle.std.proofs.lemmas.List.Elements.{All-filter, All-weaker}
use Rattle.std.proofs.lemmas.List.Sums.{sum_by_push}
use Rattle.q3_entity.specs.Entities.{most_entities}
use Rattle.q3_entity_ring.specs.Snapshot.{Snapshot}
use Rattle.q3_entity_ring.specs.Places.{place_of, at_number}
use Rattle.q3_rings.specs.Rings.{HeldSnapshot, HeldSnapshots, held_remains, older, accept_at}
use Rattle.q3_rings.specs.Accepted.{AreAccepted, newest_of, last_accepted, age_of, aged, SnapshotsStandFor}
use Rattle.q3_rings.proofs.Lists.{last_push, last_holds, filter_none, filter_push, filter_passes_by}
use Rattle.q3_rings.proofs.Aging.{older_remains, new_remains}
use Rattle.q3_rings.proofs.Accepting.{accept_other, accept_here, accept_stays}
use Rattle.q3_rings.proofs.Rising.{has_place, counts, size, IsBelow, push_rises, all_below}

-- the last in a place, one list longer
last_here : (have : List Snapshot) (snapshot : Snapshot) (number : ℕ) → place_of snapshot.head.number ≡ place_of number → last_accepted (have ++ snapshot ∷ []) number ≡ Some snapshot
last_here have snapshot number here =
    ap (last_or None) (filter_push (has_place number) have snapshot (eq-eqb _ _ here)) ∙ last_push None (filter (has_place number) have) snapshot

last_other : (have : List Snapshot) (snapshot : Snapshot) (number : ℕ) → place_of snapshot.head.number ≢ place_of number → last_accepted (have ++ snapshot ∷ []) number ≡ last_accepted have number
last_other have snapshot number other = ap (last_or None) (filter_passes_by (has_place number) have snapshot (ne_eqb _ _ other))

-- the age of a number, one list longer
age_more : (have : List Snapshot) (snapshot : Snapshot) (number : ℕ) → number ≤ snapshot.head.number → age_of (have ++ snapshot ∷ []) number ≡ age_of have number + size snapshot
age_more have snapshot number below =
    ap (sum_by size) (filter_push (counts number) have snapshot (le-leb _ _ below)) ∙ sum_by_push size (filter (counts number) have) snapshot

-- and of the newest number
age_new : (have : List Snapshot) (snapshot : Snapshot) → AreAccepted have → newest_of have < snapshot.head.number → age_of (have ++ snapshot ∷ []) snapshot.head.number ≡ size snapshot
age_new have snapshot are newer =
    let number = snapshot.head.number in
    let none : filter (counts number) have ≡ [] = filter_none (counts number) have
    (All-weaker (IsBelow number) (λ one. counts number one ≡ false) (λ one below. lt-leb _ _ below) have (all_below have number are newer)) in
    age_more have snapshot number (omega arith) ∙ ap (λ list. sum_by size list + size snapshot) none ∙ omega arith

-- all others are older
others_older : (ring : ℕ) (have : List Snapshot) (snapshot : Snapshot) (last : Option Snapshot) → IfSome last (IsBelow snapshot.head.number)
    → option_map (older ring (length snapshot.entities)) (option_map (λ one. held_remains ring (aged have one)) last)
    ≡ option_map (λ one. held_remains ring (aged (have ++ snapshot ∷ []) one)) last
others_older ring have snapshot None below = refl
others_older ring have snapshot (Some one) below =
    ap (λ held. Some held) (older_remains ring (length snapshot.entities) (aged have one)
    ∙ ap (λ age. held_remains ring (record { snapshot = one; age = age })) (sym (age_more have snapshot one.head.number (omega arith))))

-- the snapshots of a list, as they are held
abbrev held_of : ℕ → List Snapshot → Snapshot → HeldSnapshot
held_of ring have snapshot = held_remains ring (aged have snapshot)

-- the last that is accepted is there
new_is_held : (ring : ℕ) (have : List Snapshot) (snapshot : Snapshot) → 512 ≤ ring → AreAccepted have → newest_of have < snapshot.head.number → size snapshot ≤ most_entities
    → held_of ring (have ++ snapshot ∷ []) snapshot ≡ record { snapshot = snapshot; age = size snapshot }
new_is_held ring have snapshot room are newer few =
    ap (λ age. held_remains ring (record { snapshot = snapshot; age = age })) (age_new have snapshot are newer)
    ∙ new_remains ring (record { snapshot = snapshot; age = size snapshot }) room few

-- the last in a place is no newer than the newest
last_below : (have : List Snapshot) (number place : ℕ) → AreAccepted have → newest_of have < number → IfSome (last_accepted have place) (IsBelow number)
last_below have number place are newer =
    last_holds (IsBelow number) None (filter (has_place place) have) tt (All-filter (has_place place) (IsBelow number) have (all_below have number are newer))

places_added : (have : List Snapshot) (snapshots : HeldSnapshots) (snapshot : Snapshot) (number : ℕ) → SnapshotsStandFor have snapshots → newest_of have < snapshot.head.number
    → size snapshot ≤ most_entities
    → at_number (accept_at snapshots snapshot).places number ≡ option_map (held_of snapshots.ring (have ++ snapshot ∷ [])) (last_accepted (have ++ snapshot ∷ []) number)
places_added have snapshots snapshot number stand newer few =
    let ring = snapshots.ring in
    let longer = have ++ snapshot ∷ [] in
    elim (cases_eq (place_of number) (place_of snapshot.head.number)) [
      | inl here ↦
          ap (λ place. get_or (accept_at snapshots snapshot).places place None) here
          ∙ accept_here snapshots snapshot stand.held.count
          ∙ ap (λ held. Some held) (sym (new_is_held ring have snapshot stand.held.ring stand.accepted newer few))
          ∙ ap (option_map (held_of ring longer)) (sym (last_here have snapshot number (sym here)))
      | inr other ↦
          accept_other snapshots snapshot (place_of number) other
          ∙ ap (option_map (older ring (size snapshot))) (stand.places number)
          ∙ others_older ring have snapshot (last_accepted have number) (last_below have snapshot.head.number number stand.accepted newer)
          ∙ ap (option_map (held_of ring longer)) (sym (last_other have snapshot number (λ same. other (sym same))))
    ]

pub accept_adds : (have : List Snapshot) (snapshots : HeldSnapshots) (snapshot : Snapshot) → SnapshotsStandFor have snapshots
    → snapshots.newest < snapshot.head.number → length snapshot.entities ≤ most_entities
    → SnapshotsStandFor (have ++ snapshot ∷ []) (accept_at snapshots snapshot)
accept_adds have snapshots snapshot stand newer few =
    let above : newest_of have < snapshot.head.number = let newest = stand.newest in omega arith in
    record {
      accepted = push_rises have snapshot stand.accepted above few;
      held = accept_stays snapshots snapshot stand.held newer;
      newest = sym (ap (λ last. unwrap_or (option_map (λ (snapshot : Snapshot). snapshot.head.number) last) 0) (last_push None have snapshot));
      places = λ number. places_added have snapshots snapshot number stand above few;
    }
