-- What a recording holds of snapshots while it plays: those that its client holds, from the first that is recorded on.
use Rattle.std.proofs.Common.{◌≡◌, ℕ, ◌+◌, ◌-◌, ◌<◌, ◌≤◌, Bool, true, false, List, [], ◌∷◌, length, map, get_or, set, Option, Some, None, Result, Ok, Err, inl, inr, refl, sym, ap, ◌∙◌, arith}
use Rattle.std.specs.Prelude.{IfSome, option_map, nat_le, ◌==◌, if◌then◌else◌}
use Rattle.std.specs.Result.{result_ok}
use Rattle.std.proofs.lemmas.Bool.{cases_Bool, cond_both, le-leb, leb-true, leb-false, eq-eqb, ne_eqb}
use Rattle.std.proofs.lemmas.List.{length-map, map-set, get_or-set_same, ext_get_or, get_or-replicate}
use Rattle.std.proofs.Math.ListN.{get_or-map}
use Rattle.q3_entity.specs.Entities.{most_entities}
use Rattle.q3_entity_ring.specs.Snapshot.{Snapshot, without_entities}
use Rattle.q3_entity_ring.specs.Places.{most_places, place_of, no_places, at_number}
use Rattle.q3_rings.specs.declared.rings.NoBase.{NoBase}
use Rattle.q3_rings.specs.declared.rings.NoBase.TheVariants.{NeverHeld, Overwritten, EntitiesGone}
use Rattle.q3_rings.specs.Rings.{HeldSnapshot, HeldSnapshots, IsHeldIn, AreHeldSnapshots, no_snapshots, is_young, young, snapshot_under, view_at, older, accept_at}

-- one that isn't below the first
abbrev pub since : ℕ → Option HeldSnapshot → Option HeldSnapshot
since first None = None
since first (Some held) = if nat_le first held.snapshot.head.number then Some held else None

abbrev pub held_since : ℕ → HeldSnapshots → HeldSnapshots
held_since first held = record held { places = map (since first) held.places }

-- ---- a snapshot is accepted

older_number : (ring count : ℕ) (held : HeldSnapshot) → (older ring count held).snapshot.head.number ≡ held.snapshot.head.number
older_number ring count held =
    let more : HeldSnapshot = record held { age = held.age + count } in
    cond_both (is_young ring more.age) more (record more { snapshot = without_entities more.snapshot }) (λ (old : HeldSnapshot). old.snapshot.head.number ≡ held.snapshot.head.number)
    (λ e. refl) (λ e. refl)

chosen_older : (ring count : ℕ) (held : HeldSnapshot) (b : Bool) → (if b then Some (older ring count held) else None) ≡ option_map (older ring count) (if b then Some held else None)
chosen_older ring count held true = refl
chosen_older ring count held false = refl

older_since : (first ring count : ℕ) (place : Option HeldSnapshot) → since first (option_map (older ring count) place) ≡ option_map (older ring count) (since first place)
older_since first ring count None = refl
older_since first ring count (Some held) =
    ap (λ (number : ℕ). if nat_le first number then Some (older ring count held) else None) (older_number ring count held)
    ∙ chosen_older ring count held (nat_le first held.snapshot.head.number)

all_older : (first ring count : ℕ) (places : List (Option HeldSnapshot))
    → map (since first) (map (option_map (older ring count)) places) ≡ map (option_map (older ring count)) (map (since first) places)
all_older first ring count [] = refl
all_older first ring count (place ∷ places) =
    ap (λ (one : Option HeldSnapshot). one ∷ map (since first) (map (option_map (older ring count)) places)) (older_since first ring count place)
    ∙ ap (λ (others : List (Option HeldSnapshot)). option_map (older ring count) (since first place) ∷ others) (all_older first ring count places)

since_same : (first : ℕ) (held : HeldSnapshot) → first ≤ held.snapshot.head.number → since first (Some held) ≡ Some held
since_same first held from = ap (λ (b : Bool). if b then Some held else None) (le-leb first held.snapshot.head.number from)

-- in a ring of so much room, with this newest number
abbrev pub in_ring : ℕ → ℕ → List (Option HeldSnapshot) → HeldSnapshots
in_ring ring newest places = record { ring = ring; newest = newest; places = places }

-- one that isn't below the first is accepted alike
pub accept_since : (first : ℕ) (held : HeldSnapshots) (snapshot : Snapshot) → first ≤ snapshot.head.number
    → held_since first (accept_at held snapshot) ≡ accept_at (held_since first held) snapshot
accept_since first held snapshot from =
    let new : HeldSnapshot = record { snapshot = snapshot; age = length snapshot.entities } in
    let at = place_of snapshot.head.number in
    let aged = map (option_map (older held.ring (length snapshot.entities))) held.places in
    ap (in_ring held.ring snapshot.head.number)
    (map-set (since first) aged at (Some new)
    ∙ ap (λ (one : Option HeldSnapshot). set (map (since first) aged) at one) (since_same first new from)
    ∙ ap (λ (places : List (Option HeldSnapshot)). set places at (Some new)) (all_older first held.ring (length snapshot.entities) held.places))

-- of none there is none
pub none_since : (first ring : ℕ) → held_since first (no_snapshots ring) ≡ no_snapshots ring
none_since first ring = refl

-- ---- before the first

one_before : (first newest place : ℕ) (one : Option HeldSnapshot) → newest < first → IfSome one (IsHeldIn newest place) → since first one ≡ None
one_before first newest place None before is = refl
one_before first newest place (Some held) before is =
    cond_both (nat_le first held.snapshot.head.number) (Some held) None (λ (one : Option HeldSnapshot). one ≡ None)
    (λ e. let accepted = is.accepted in let from = leb-true first held.snapshot.head.number e in absurd (omega arith)) (λ e. refl)

-- nothing is left of what is older than the first
pub before_since : (first : ℕ) (held : HeldSnapshots) → AreHeldSnapshots held → held.newest < first → (held_since first held).places ≡ no_places
before_since first held are before =
    let count : length (map (since first) held.places) ≡ most_places = length-map held.places (since first) ∙ are.count in
    ext_get_or None (map (since first) held.places) no_places count
    (λ k within. get_or-map (since first) held.places k None ∙ one_before first held.newest k (get_or held.places k None) before (are.each k)
    ∙ sym (get_or-replicate most_places k None None (omega (arith, count, within))))

-- so the first is accepted as the first of all
pub first_since : (first : ℕ) (held : HeldSnapshots) (snapshot : Snapshot) → AreHeldSnapshots held → held.newest < first → snapshot.head.number ≡ first
    → held_since first (accept_at held snapshot) ≡ accept_at (no_snapshots held.ring) snapshot
first_since first held snapshot are before is =
    accept_since first held snapshot (omega (arith, is))
    ∙ ap (λ (places : List (Option HeldSnapshot)). accept_at (in_ring held.ring 0 places) snapshot) (before_since first held are before)

-- ---- what is held under a number

gone_under : (ring number : ℕ) (held : HeldSnapshot) → held.snapshot.head.number < number → result_ok (snapshot_under ring number (Some held)) ≡ None
gone_under ring number held below =
    ap (λ (b : Bool). result_ok (if b then young ring held else Err (Overwritten held.snapshot.head.number))) (ne_eqb held.snapshot.head.number number (λ same. omega (arith, same, below)))

from_under : (first ring number : ℕ) (place : Option HeldSnapshot) → first ≤ number
    → result_ok (snapshot_under ring number (since first place)) ≡ result_ok (snapshot_under ring number place)
from_under first ring number None from = refl
from_under first ring number (Some held) from =
    cond_both (nat_le first held.snapshot.head.number) (Some held) None
    (λ (place : Option HeldSnapshot). result_ok (snapshot_under ring number place) ≡ result_ok (snapshot_under ring number (Some held)))
    (λ e. refl) (λ e. let below = leb-false first held.snapshot.head.number e in sym (gone_under ring number held (omega (arith, below, from))))

below_under : (first ring number : ℕ) (place : Option HeldSnapshot) → number < first → result_ok (snapshot_under ring number (since first place)) ≡ None
below_under first ring number None below = refl
below_under first ring number (Some held) below =
    cond_both (nat_le first held.snapshot.head.number) (Some held) None
    (λ (place : Option HeldSnapshot). result_ok (snapshot_under ring number place) ≡ None)
    (λ e. let from = leb-true first held.snapshot.head.number e in
    ap (λ (b : Bool). result_ok (if b then young ring held else Err (Overwritten held.snapshot.head.number))) (ne_eqb held.snapshot.head.number number (λ same. omega (arith, same, below, from))))
    (λ e. refl)

-- 0 is no number
numbered : (b : Bool) (one other : Result Snapshot NoBase) → result_ok one ≡ result_ok other → result_ok (if b then Err NeverHeld else one) ≡ result_ok (if b then Err NeverHeld else other)
numbered true one other same = refl
numbered false one other same = same

at_since : (first : ℕ) (held : HeldSnapshots) (number : ℕ) → at_number (map (since first) held.places) number ≡ since first (at_number held.places number)
at_since first held number = get_or-map (since first) held.places (place_of number) None

-- from the first on as the client holds it
pub view_from : (first : ℕ) (held : HeldSnapshots) (number : ℕ) → first ≤ number → view_at (held_since first held) number ≡ view_at held number
view_from first held number from =
    numbered (number == 0) (snapshot_under held.ring number (at_number (map (since first) held.places) number)) (snapshot_under held.ring number (at_number held.places number))
    (ap (λ (place : Option HeldSnapshot). result_ok (snapshot_under held.ring number place)) (at_since first held number)
    ∙ from_under first held.ring number (at_number held.places number) from)

pub view_zero : (first : ℕ) (held : HeldSnapshots) → view_at (held_since first held) 0 ≡ view_at held 0
view_zero first held = refl

abbrev nothing : Result Snapshot NoBase
nothing = Err NeverHeld

-- and none below it
pub view_below : (first : ℕ) (held : HeldSnapshots) (number : ℕ) → number < first → view_at (held_since first held) number ≡ None
view_below first held number below =
    numbered (number == 0) (snapshot_under held.ring number (at_number (map (since first) held.places) number)) (Err NeverHeld)
    (ap (λ (place : Option HeldSnapshot). result_ok (snapshot_under held.ring number place)) (at_since first held number)
    ∙ below_under first held.ring number (at_number held.places number) below)
    ∙ never (number == 0)
  where
    never : (b : Bool) → result_ok (if b then nothing else nothing) ≡ None
    never true = refl
    never false = refl

-- what the client doesn't hold isn't held
pub view_none : (first : ℕ) (held : HeldSnapshots) (number : ℕ) → view_at held number ≡ None → view_at (held_since first held) number ≡ None
view_none first held number none = elim (cases_Bool (nat_le first number)) [
  | inl e ↦ view_from first held number (leb-true first number e) ∙ none
  | inr e ↦ view_below first held number (leb-false first number e)
]

-- and what is held the client holds
pub view_some : (first : ℕ) (held : HeldSnapshots) (number : ℕ) (snapshot : Snapshot) → view_at (held_since first held) number ≡ Some snapshot → view_at held number ≡ Some snapshot
view_some first held number snapshot some = elim (cases_Bool (nat_le first number)) [
  | inl e ↦ sym (view_from first held number (leb-true first number e)) ∙ some
  | inr e ↦ let none = view_below first held number (leb-false first number e) in absurd (no_some (sym none ∙ some))
]
  where
    no_some : None ≡ Some snapshot → ⊥
    no_some e = absurd cc

-- one that was accepted is held under its number
pub view_new : (held : HeldSnapshots) (snapshot : Snapshot) → AreHeldSnapshots held → 0 < snapshot.head.number → length snapshot.entities ≤ most_entities
    → view_at (accept_at held snapshot) snapshot.head.number ≡ Some snapshot
view_new held snapshot are some few =
    let number = snapshot.head.number in
    let age = length snapshot.entities in
    let new : HeldSnapshot = record { snapshot = snapshot; age = age } in
    let aged = map (option_map (older held.ring age)) held.places in
    let count : length aged ≡ most_places = length-map held.places (option_map (older held.ring age)) ∙ are.count in
    let here : get_or (set aged (place_of number) (Some new)) (place_of number) None ≡ Some new = get_or-set_same aged (place_of number) (Some new) None (omega (arith, count)) in
    let room : age ≤ held.ring - most_entities = let ring = are.ring in omega (arith, ring, few) in
    ap (λ (place : Option HeldSnapshot). result_ok (if number == 0 then Err NeverHeld else snapshot_under held.ring number place)) here
    ∙ ap (λ (b : Bool). result_ok (if b then Err NeverHeld else snapshot_under held.ring number (Some new))) (ne_eqb number 0 (λ same. omega (arith, same, some)))
    ∙ ap (λ (b : Bool). result_ok (if b then young held.ring new else Err (Overwritten number))) (eq-eqb number number refl)
    ∙ ap (λ (b : Bool). result_ok (if b then Ok snapshot else Err (EntitiesGone age))) (le-leb age (held.ring - most_entities) room)
