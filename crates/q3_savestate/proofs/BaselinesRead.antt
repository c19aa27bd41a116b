-- Baselines that are read one after the other.
use Rattle.std.proofs.Common.{◌≡◌, ℕ, suc, ◌+◌, ◌-◌, ◌<◌, List, ◌∷◌, Ok, Err, refl, ap, ◌∙◌, sym, arith}
use Rattle.std.specs.List.{fold}
use Rattle.q3_bits.specs.ResultBind.{◌>>=◌}
use Rattle.q3_fields.specs.Kinds.{Layout}
use Rattle.q3_entity.specs.declared.state.EntityState.{EntityState}
use Rattle.q3_entity.specs.Baselines.{Baselines, no_baselines, with_baseline}
use Rattle.q3_savestate.specs.Cursor.{Cursor, Field}
use Rattle.q3_savestate.specs.Entities.{entity_at, entities_at}

-- baselines with those that are read
abbrev pub with_read : Baselines → Field (List EntityState) → Field Baselines
with_read baselines read = read >>= λ entities. Ok (fold with_baseline baselines entities.0, entities.1)

-- as many were read, and those that are left make the whole
pub record HasBaselines (table : Layout) (count : ℕ) (start now : Cursor) (k least : ℕ) (baselines : Baselines) : Type 0 where
  pub left : with_read baselines (entities_at table (count - k) least now) ≡ with_read no_baselines (entities_at table count 0 start)

with_first : (baselines : Baselines) (entity : EntityState) (read : Field (List EntityState)) → with_read baselines (read >>= λ others. Ok (entity ∷ others.0, others.1)) ≡ with_read (with_baseline baselines entity) read
with_first baselines entity (Ok read) = refl
with_first baselines entity (Err at) = refl

next_baseline : (table : Layout) (count least : ℕ) (now next : Cursor) (entity : EntityState) (baselines : Baselines) → Ok (entity, next) ≡ entity_at table least now
    → with_read baselines (entities_at table (suc count) least now) ≡ with_read (with_baseline baselines entity) (entities_at table count (entity.number + 1) next)
unfolding entities_at
next_baseline table count least now next entity baselines read = rw (← read) (with_first baselines entity (entities_at table count (entity.number + 1) next))

-- one more is read
pub more : (table : Layout) (count : ℕ) (start now next : Cursor) (k least : ℕ) (baselines : Baselines) (entity : EntityState) → HasBaselines table count start now k least baselines → k < count
    → Ok (entity, next) ≡ entity_at table least now → HasBaselines table count start next (k + 1) (entity.number + 1) (with_baseline baselines entity)
more table count start now next k least baselines entity has lt read =
    let one : count - k ≡ suc (count - (k + 1)) = omega arith in
    record { left = sym (next_baseline table (count - (k + 1)) least now next entity baselines read) ∙ ap (λ n. with_read baselines (entities_at table n least now)) (sym one) ∙ has.left }

-- one can't be read
pub stops : (table : Layout) (count : ℕ) (start now : Cursor) (k least : ℕ) (baselines : Baselines) (at : ℕ) → HasBaselines table count start now k least baselines → k < count
    → Err at ≡ entity_at table least now → Err at ≡ with_read no_baselines (entities_at table count 0 start)
unfolding entities_at
stops table count start now k least baselines at has lt read =
    let one : count - k ≡ suc (count - (k + 1)) = omega arith in
    let none : entities_at table (suc (count - (k + 1))) least now ≡ Err at = rw (← read) refl in
    sym (ap (λ read. with_read baselines read) none) ∙ ap (λ n. with_read baselines (entities_at table n least now)) (sym one) ∙ has.left

-- all are read
pub all : (table : Layout) (count : ℕ) (start now : Cursor) (k least : ℕ) (baselines : Baselines) → HasBaselines table count start now k least baselines → k ≡ count
    → Ok (baselines, now) ≡ with_read no_baselines (entities_at table count 0 start)
unfolding entities_at
all table count start now k least baselines has e =
    let none : count - k ≡ 0 = omega arith in
    ap (λ n. with_read baselines (entities_at table n least now)) (sym none) ∙ has.left
