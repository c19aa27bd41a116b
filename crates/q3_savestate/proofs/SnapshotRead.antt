-- A snapshot that is read, and put back after others.
use Rattle.std.proofs.Common.{◌≡◌, ℕ, zero, suc, ◌+◌, ◌-◌, ◌<◌, ◌≤◌, false, List, [], ◌∷◌, length, get_or, Option, Some, None, Ok, Err, inl, inr, refl, sym, ap, ◌∙◌, subst, arith}
use Rattle.std.specs.Prelude.{IfSome, MatchOption}
use Rattle.std.proofs.lemmas.Bool.{cases_Bool, cases_eq}
use Rattle.std.proofs.lemmas.List.{get_or-set_same, get_or-set_other}
use Rattle.q3_bits.specs.ResultBind.{◌>>=◌}
use Rattle.q3_bits.proofs.Binds.{bind_ok}
use Rattle.q3_fields.specs.Kinds.{Layout}
use Rattle.q3_entity.specs.declared.state.EntityState.{EntityState}
use Rattle.q3_entity.specs.Entities.{most_entities}
use Rattle.q3_player.specs.declared.head.SnapHead.{SnapHead}
use Rattle.q3_profile.specs.declared.profile.Profile.{Profile}
use Rattle.q3_entity_ring.specs.Places.{most_places, place_of}
use Rattle.q3_rings.specs.Rings.{HeldSnapshot, HeldSnapshots, RingsState, AreHeldSnapshots, CanPutBack, is_young, begin_in, end_in, put_back_at}
use Rattle.q3_savestate.specs.Cursor.{Cursor, Field, number_at}
use Rattle.q3_savestate.specs.Entities.{entity_at, entities_at}
use Rattle.q3_savestate.specs.Snapshots.{slot_at, head_at, most_of, snapshot_at}
use Rattle.q3_savestate.specs.Reading.{as_field, placed_in, left_by_one, MayPutBack}
use Rattle.q3_savestate.proofs.Ranges.{in_range}

-- ---- whether it may be put back

-- how many entities it may have
few_of : (ring age : ℕ) → (most_of ring age ≤ most_entities) × (most_of ring age ≤ age) × (is_young ring age ≡ false → most_of ring age ≡ 0)
few_of ring age = elim (cases_Bool (is_young ring age)) [
  | inl young ↦ rw young (omega arith, omega arith, λ old. absurd cc)
  | inr old ↦ rw old (omega arith, omega arith, λ again. refl)
]

all_older : (held : Option HeldSnapshot) (most age : ℕ) → age ≤ most → IfSome held (λ held. length held.snapshot.entities + most ≤ held.age) → IfSome held (λ held. length held.snapshot.entities + age ≤ held.age)
all_older None most age le older = tt
all_older (Some held) most age le older = omega arith

pub can_back : (room most least age count number : ℕ) (rings : RingsState) (first now next after : Cursor) → MayPutBack room most rings → rings.held.newest < number
    → Ok (age, now) ≡ number_at 4 0 most first → Ok (count, after) ≡ number_at 2 0 least next → least ≡ most_of room age → CanPutBack rings.held number age count
can_back room most least age count number rings first now next after may newer age_read count_read least_is =
    let within : age ≤ most = (in_range 4 0 most first now age (sym age_read)).1 in
    let few : count ≤ least = (in_range 2 0 least next after count (sym count_read)).1 in
    let limits = few_of room age in
    let first : most_of room age ≤ most_entities = limits.0 in
    let second : most_of room age ≤ age = limits.1 in
    record {
      newer = newer;
      few = omega arith;
      counted = omega arith;
      gone = λ old.
          let none : most_of room age ≡ 0 = limits.2 (ap (λ room. is_young room age) (sym may.room_is) ∙ old) in
          omega arith;
      older = λ place. all_older (get_or rings.held.places place None) most age within (may.older place);
    }

-- ---- its entities

pub count_read : (table : Layout) (count least : ℕ) (cursor next : Cursor) (entities : List EntityState) → entities_at table count least cursor ≡ Ok (entities, next) → length entities ≡ count
unfolding entities_at
count_read table zero least cursor next entities read =
    let pair : ◌≡◌ {A = List EntityState × Cursor} ([], cursor) (entities, next) = cc in
    ap (λ (x : List EntityState × Cursor). length x.0) (sym pair)
count_read table (suc count) least cursor next entities read =
    let one = bind_ok (entity_at table least cursor) (λ entity. entities_at table count (entity.0.number + 1) entity.1 >>= λ others. Ok (entity.0 ∷ others.0, others.1)) (entities, next) read in
    let others = bind_ok (entities_at table count (one.0.0.number + 1) one.0.1) (λ others. Ok (one.0.0 ∷ others.0, others.1)) (entities, next) one.2 in
    let size = count_read table count (one.0.0.number + 1) one.0.1 others.0.1 others.0.0 others.1 in
    let longer = first_and one.0.0 others.0.0 entities others.0.1 next others.2 in
    omega arith
  where
    first_and : (entity : EntityState) (others entities : List EntityState) (now next : Cursor) → ◌≡◌ {A = Field (List EntityState)} (Ok (entity ∷ others, now)) (Ok (entities, next)) → length entities ≡ length others + 1
    first_and entity others entities now next e =
        let pair : ◌≡◌ {A = List EntityState × Cursor} (entity ∷ others, now) (entities, next) = cc in
        let is : entity ∷ others ≡ entities = ap (λ (x : List EntityState × Cursor). x.0) pair in
        let size : length (entity ∷ others) ≡ length entities = ap length is in
        omega arith

-- what was read, where another value was made of it
pub as_field_ok : {X Y : Type 0} (f : X → Y) (read : Field X) (y : Y) (next : Cursor) → Ok (y, next) ≡ as_field f read → (x : X) × (read ≡ Ok (x, next)) × (y ≡ f x)
as_field_ok {Y = Y} f (Ok x) y next e =
    let pair : ◌≡◌ {A = Y × Cursor} (y, next) (f x.0, x.1) = cc in
    let value : y ≡ f x.0 = ap (λ (p : Y × Cursor). p.0) pair in
    let place : next ≡ x.1 = ap (λ (p : Y × Cursor). p.1) pair in
    (x.0, ap (λ (next : Cursor). Ok (x.0, next)) (sym place), value)
as_field_ok f (Err at) y next e = absurd cc

-- ---- what is left of it

-- it has all its entities
pub is_full : (table : Layout) (count age : ℕ) (head : SnapHead) (old begun full : RingsState) (cursor next : Cursor) → begun ≡ begin_in old head age count
    → Ok (full, next) ≡ as_field (placed_in begun) (entities_at table count 0 cursor) → MatchOption full.begun ⊥ (λ begun. length begun.entities ≡ begun.count)
is_full table count age head old begun full cursor next begun_is read =
    let placed = as_field_ok (placed_in begun) (entities_at table count 0 cursor) full next read in
    let size = count_read table count 0 cursor next placed.0 placed.1 in
    let is : full ≡ placed_in (begin_in old head age count) placed.0 = placed.2 ∙ ap (λ (begun : RingsState). placed_in begun placed.0) begun_is in
    subst (λ (full : RingsState). MatchOption full.begun ⊥ (λ begun. length begun.entities ≡ begun.count)) (sym is) size

-- what is held after it
put_older : (held : HeldSnapshots) (one : HeldSnapshot) (most next : ℕ) → length held.places ≡ most_places → next ≤ most → length one.snapshot.entities + next ≤ one.age
    → ((place : ℕ) → IfSome (get_or held.places place None) (λ held. length held.snapshot.entities + most ≤ held.age))
    → (place : ℕ) → IfSome (get_or (put_back_at held one).places place None) (λ held. length held.snapshot.entities + next ≤ held.age)
put_older held one most next count less own older place =
    let number : ℕ = one.snapshot.head.number in
    let places : List (Option HeldSnapshot) = (put_back_at held one).places in
    let within : place_of number < length held.places = omega arith in
    elim (cases_eq place (place_of number)) [
      | inl same ↦
          subst (λ found. IfSome found (λ held. length held.snapshot.entities + next ≤ held.age))
          (sym (ap (λ place. get_or places place None) same ∙ get_or-set_same held.places (place_of number) (Some one) None within)) own
      | inr other ↦
          subst (λ found. IfSome found (λ held. length held.snapshot.entities + next ≤ held.age)) (sym (get_or-set_other held.places (place_of number) place (Some one) None other))
          (all_older (get_or held.places place None) most next less (older place))
    ]

-- a snapshot was read: what is told of each of its fields
pub record WasRead (profile : Profile) (newest left most least : ℕ) (held : HeldSnapshots) (number age count : ℕ) (head : SnapHead) (start first second third fourth : Cursor) : Type 0 where
  pub number_read : Ok (number, first) ≡ slot_at held newest left start
  pub age_read : Ok (age, second) ≡ number_at 4 0 most first
  pub head_read : Ok (head, third) ≡ head_at profile number second
  pub count_read : Ok (count, fourth) ≡ number_at 2 0 least third
  pub least_is : least ≡ most_of held.ring age

snapshot_is : (profile : Profile) (newest left most least : ℕ) (held : HeldSnapshots) (number age count : ℕ) (head : SnapHead) (entities : List EntityState)
    (start first second third fourth last : Cursor) → WasRead profile newest left most least held number age count head start first second third fourth
    → entities_at profile.entity count 0 fourth ≡ Ok (entities, last)
    → snapshot_at profile held newest left most start ≡ Ok (record { snapshot = record { head = head; entities = entities }; age = age }, last)
unfolding snapshot_at
snapshot_is profile newest left most least held number age count head entities start first second third fourth last was read =
    rw (← was.number_read, ← was.age_read, ← was.head_read, ← was.least_is, ← was.count_read, read) refl

-- the ring after it, and what is read of it
pub record IsAfter (profile : Profile) (newest left most next : ℕ) (held : HeldSnapshots) (rings : RingsState) (start last : Cursor) : Type 0 where
  pub found : Ok ((next, rings.held), last) ≡ as_field (left_by_one held) (snapshot_at profile held newest left most start)
  pub may : MayPutBack held.ring next rings

-- it is held, in a ring in which so many count as placed
abbrev ended : HeldSnapshots → ℕ → HeldSnapshot → RingsState
ended held placed one = record { held = put_back_at held one; placed = placed; begun = None }

pub was_put_back : (profile : Profile) (newest left most least : ℕ) (held : HeldSnapshots) (number age count : ℕ) (head : SnapHead) (old begun full : RingsState)
    (start first second third fourth last : Cursor) → WasRead profile newest left most least held number age count head start first second third fourth
    → AreHeldSnapshots held → CanPutBack held head.number age count → ((place : ℕ) → IfSome (get_or held.places place None) (λ held. length held.snapshot.entities + most ≤ held.age))
    → old.held ≡ held → age ≤ old.placed → begun ≡ begin_in old head age count
    → Ok (full, last) ≡ as_field (placed_in begun) (entities_at profile.entity count 0 fourth)
    → IsAfter profile newest left most (age - count) held (end_in full) start last
was_put_back profile newest left most least held number age count head old begun full start first second third fourth last was are can older held_is placed begun_is read =
    let entities = as_field_ok (placed_in begun) (entities_at profile.entity count 0 fourth) full last read in
    let size : length entities.0 ≡ count = count_read profile.entity count 0 fourth last entities.0 entities.1 in
    let one : HeldSnapshot = record { snapshot = record { head = head; entities = entities.0 }; age = age } in
    let is : end_in full ≡ ended held old.placed one =
    ap end_in (entities.2 ∙ ap (λ (begun : RingsState). placed_in begun entities.0) begun_is) ∙ ap (λ held. ended held old.placed one) held_is in
    let within : age ≤ most = (in_range 4 0 most first second age (sym was.age_read)).1 in
    let newer : held.newest < head.number = can.newer in
    let counted : count ≤ age = can.counted in
    subst (λ rings. IsAfter profile newest left most (age - count) held rings start last) (sym is) (record {
      found =
          ap (λ (count : ℕ). Ok ((age - count, put_back_at held one), last)) (sym size)
          ∙ ap (as_field (left_by_one held)) (sym (snapshot_is profile newest left most least held number age count head entities.0 start first second third fourth last was entities.1));
      may = record {
        room_is = refl;
        none = refl;
        first = λ none. absurd (omega arith);
        placed = λ some. omega arith;
        older = put_older held one most (age - count) are.count (omega arith) (omega arith) older;
      };
    })
