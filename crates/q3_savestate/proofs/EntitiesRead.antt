-- Entities that are read one after the other, and placed as those of a snapshot that is being put back.
use Rattle.std.proofs.Common.{◌≡◌, ℕ, suc, ◌+◌, ◌-◌, ◌^◌, ◌<◌, ◌≤◌, List, [], ◌∷◌, ◌++◌, length, Option, Some, None, Ok, Err, refl, sym, ap, ◌∙◌, subst, append_assoc, arith}
use Rattle.std.specs.Prelude.{MatchOption, option_map}
use Rattle.std.proofs.lemmas.List.{append-nil, length-append}
use Rattle.q3_bits.specs.ResultBind.{◌>>=◌}
use Rattle.q3_bits.proofs.Binds.{bind_ok}
use Rattle.q3_fields.specs.Kinds.{Layout, end_mark}
use Rattle.q3_entity.specs.declared.state.EntityState.{EntityState}
use Rattle.q3_entity.specs.Entities.{RiseFrom, Rises, most_entities}
use Rattle.q3_rings.specs.Rings.{Begun, RingsState, place_in}
use Rattle.q3_savestate.specs.Cursor.{Cursor, Field, number_at}
use Rattle.q3_savestate.specs.Entities.{state_words_at, entity_at, entities_at}
use Rattle.q3_savestate.specs.Reading.{as_field, placed_in}
use Rattle.q3_savestate.proofs.Ranges.{in_range}

-- ---- what is placed

no_more : (begun : Option Begun) → option_map (λ (begun : Begun). record begun { entities = begun.entities ++ [] }) begun ≡ begun
no_more None = refl
no_more (Some begun) = ap (λ (entities : List EntityState). Some (record begun { entities = entities })) (append-nil begun.entities)

placed_none : (rings : RingsState) → placed_in rings [] ≡ rings
placed_none rings = ap (λ begun. record rings { begun = begun }) (no_more rings.begun)

one_more : (entity : EntityState) (others : List EntityState) (begun : Option Begun)
    → option_map (λ (begun : Begun). record begun { entities = begun.entities ++ others }) (option_map (λ (begun : Begun). record begun { entities = begun.entities ++ entity ∷ [] }) begun)
    ≡ option_map (λ (begun : Begun). record begun { entities = begun.entities ++ entity ∷ others }) begun
one_more entity others None = refl
one_more entity others (Some begun) = ap (λ (entities : List EntityState). Some (record begun { entities = entities })) (append_assoc begun.entities (entity ∷ []) others)

placed_first : (rings : RingsState) (entity : EntityState) (others : List EntityState) → placed_in (place_in rings entity) others ≡ placed_in rings (entity ∷ others)
placed_first rings entity others = ap (λ begun. record rings { begun = begun }) (one_more entity others rings.begun)

-- ---- what is read

number_of : (one other : EntityState) (now next : Cursor) → ◌≡◌ {A = Field EntityState} (Ok (one, now)) (Ok (other, next)) → one.number ≡ other.number
number_of one other now next e =
    let pair : (one, now) ≡ (other, next) = cc in
    ap (λ (x : EntityState × Cursor). x.0.number) pair

-- an entity's number is at least the one that was asked for
above_least : (table : Layout) (least : ℕ) (cursor next : Cursor) (entity : EntityState) → Ok (entity, next) ≡ entity_at table least cursor → least ≤ entity.number
unfolding entity_at
above_least table least cursor next entity read =
    let number = bind_ok (number_at 2 least (end_mark table - 1) cursor) (λ number. state_words_at table.kinds number.1 >>= λ words. Ok (record { number = number.0; words = words.0 }, words.1)) (entity, next) (sym read) in
    let words = bind_ok (state_words_at table.kinds number.0.1) (λ words. Ok (record { number = number.0.0; words = words.0 }, words.1)) (entity, next) number.2 in
    let is : number.0.0 ≡ entity.number = number_of (record { number = number.0.0; words = words.0.0 }) entity words.0.1 next words.2 in
    omega (arith, (in_range 2 least (end_mark table - 1) cursor number.0.1 number.0.0 number.1).0)

first_placed : (rings : RingsState) (entity : EntityState) (read : Field (List EntityState))
    → as_field (placed_in rings) (read >>= λ others. Ok (entity ∷ others.0, others.1)) ≡ as_field (placed_in (place_in rings entity)) read
first_placed rings entity (Ok read) = ap (λ rings. Ok (rings, read.1)) (sym (placed_first rings entity read.0))
first_placed rings entity (Err at) = refl

next_placed : (table : Layout) (count least : ℕ) (now next : Cursor) (entity : EntityState) (rings : RingsState) → Ok (entity, next) ≡ entity_at table least now
    → as_field (placed_in rings) (entities_at table (suc count) least now) ≡ as_field (placed_in (place_in rings entity)) (entities_at table count (entity.number + 1) next)
unfolding entities_at
next_placed table count least now next entity rings read = rw (← read) (first_placed rings entity (entities_at table count (entity.number + 1) next))

-- ---- their numbers rise

rise_push : (limit least next : ℕ) (entities : List EntityState) (entity : EntityState) → RiseFrom limit least entities → least ≤ limit → limit ≤ entity.number → entity.number < next
    → RiseFrom next least (entities ++ entity ∷ [])
rise_push limit least next [] entity rise below above less = (omega arith, less, tt)
rise_push limit least next (one ∷ others) entity rise below above less =
    let first : one.number < limit = rise.1 in
    (rise.0, omega arith, rise_push limit (one.number + 1) next others entity rise.2 (omega arith) above less)

-- ---- all of it

-- so many are placed, whose numbers rise below the least of the next one, and those that are left make the whole
pub record HasPlaced (table : Layout) (count : ℕ) (start now : Cursor) (k least : ℕ) (old rings : RingsState) : Type 0 where
  pub left : as_field (placed_in rings) (entities_at table (count - k) least now) ≡ as_field (placed_in old) (entities_at table count 0 start)
  pub begun : MatchOption rings.begun ⊥ (λ begun. (length begun.entities ≡ k) × (begun.count ≡ count) × RiseFrom least 0 begun.entities)

pub begin : (table : Layout) (count : ℕ) (start : Cursor) (rings : RingsState) → MatchOption rings.begun ⊥ (λ begun. (begun.entities ≡ []) × (begun.count ≡ count)) → HasPlaced table count start start 0 0 rings rings
begin table count start rings is = record { left = ap (λ n. as_field (placed_in rings) (entities_at table n 0 start)) (let all : count - 0 ≡ count = omega arith in all); begun = none rings.begun is }
  where
    none : (begun : Option Begun) → MatchOption begun ⊥ (λ begun. (begun.entities ≡ []) × (begun.count ≡ count)) → MatchOption begun ⊥ (λ begun. (length begun.entities ≡ 0) × (begun.count ≡ count) × RiseFrom 0 0 begun.entities)
    none None is = is
    none (Some begun) is = (ap length is.0, is.1, subst (RiseFrom 0 0) (sym is.0) tt)

-- one more may be placed
pub may_place : (table : Layout) (count : ℕ) (start now next : Cursor) (k least : ℕ) (old rings : RingsState) (entity : EntityState) → HasPlaced table count start now k least old rings
    → k < count → count ≤ most_entities → Ok (entity, next) ≡ entity_at table least now → entity.number < 2 ^ 16
    → MatchOption rings.begun ⊥ (λ begun. (length begun.entities < begun.count) × Rises (begun.entities ++ entity ∷ []))
may_place table count start now next k least old rings entity has more few read fits = one rings.begun has.begun
  where
    one : (begun : Option Begun) → MatchOption begun ⊥ (λ begun. (length begun.entities ≡ k) × (begun.count ≡ count) × RiseFrom least 0 begun.entities)
        → MatchOption begun ⊥ (λ begun. (length begun.entities < begun.count) × Rises (begun.entities ++ entity ∷ []))
    one None is = is
    one (Some begun) is =
        let size : length begun.entities ≡ k = is.0 in
        let whole : begun.count ≡ count = is.1 in (
          omega arith,
          record {
            rise = rise_push least 0 (2 ^ 16) begun.entities entity is.2 (omega arith) (above_least table least now next entity read) fits;
            few = omega (arith, length-append begun.entities (entity ∷ []));
          },
        )

-- and is
pub more : (table : Layout) (count : ℕ) (start now next : Cursor) (k least : ℕ) (old rings : RingsState) (entity : EntityState) → HasPlaced table count start now k least old rings
    → k < count → Ok (entity, next) ≡ entity_at table least now → HasPlaced table count start next (k + 1) (entity.number + 1) old (place_in rings entity)
more table count start now next k least old rings entity has less read = record {
  left =
      let one : count - k ≡ suc (count - (k + 1)) = omega arith in
      sym (next_placed table (count - (k + 1)) least now next entity rings read) ∙ ap (λ n. as_field (placed_in rings) (entities_at table n least now)) (sym one) ∙ has.left;
  begun = grows rings.begun has.begun;
}
  where
    grows : (begun : Option Begun) → MatchOption begun ⊥ (λ begun. (length begun.entities ≡ k) × (begun.count ≡ count) × RiseFrom least 0 begun.entities)
        → MatchOption (option_map (λ (begun : Begun). record begun { entities = begun.entities ++ entity ∷ [] }) begun) ⊥
        (λ begun. (length begun.entities ≡ k + 1) × (begun.count ≡ count) × RiseFrom (entity.number + 1) 0 begun.entities)
    grows None is = is
    grows (Some begun) is =
        let size : length begun.entities ≡ k = is.0 in
        (omega (arith, length-append begun.entities (entity ∷ [])), is.1, rise_push least 0 (entity.number + 1) begun.entities entity is.2 (omega arith) (above_least table least now next entity read) (omega arith))

-- one can't be read
pub stops : (table : Layout) (count : ℕ) (start now : Cursor) (k least at : ℕ) (old rings : RingsState) → HasPlaced table count start now k least old rings → k < count
    → Err at ≡ entity_at table least now → Err at ≡ as_field (placed_in old) (entities_at table count 0 start)
unfolding entities_at
stops table count start now k least at old rings has less read =
    let one : count - k ≡ suc (count - (k + 1)) = omega arith in
    let none : entities_at table (suc (count - (k + 1))) least now ≡ Err at = rw (← read) refl in
    sym (ap (as_field (placed_in rings)) none) ∙ ap (λ n. as_field (placed_in rings) (entities_at table n least now)) (sym one) ∙ has.left

-- all are read
pub all : (table : Layout) (count : ℕ) (start now : Cursor) (k least : ℕ) (old rings : RingsState) → HasPlaced table count start now k least old rings → k ≡ count
    → Ok (rings, now) ≡ as_field (placed_in old) (entities_at table count 0 start)
unfolding entities_at
all table count start now k least old rings has end =
    let none : count - k ≡ 0 = omega arith in
    ap (λ rings. Ok (rings, now)) (sym (placed_none rings)) ∙ ap (λ n. as_field (placed_in rings) (entities_at table n least now)) (sym none) ∙ has.left
