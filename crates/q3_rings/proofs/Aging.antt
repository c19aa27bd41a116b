-- How a snapshot that is held grows older.
use Rattle.std.proofs.Common.{◌≡◌, ℕ, ◌+◌, ◌-◌, ◌≤◌, true, false, List, [], length, inl, inr, refl, sym, ap, arith}
use Rattle.std.proofs.lemmas.Bool.{cases_Bool, leb-false, le-leb, lt-leb}
use Rattle.q3_entity.specs.declared.state.EntityState.{EntityState}
use Rattle.q3_player.specs.declared.head.SnapHead.{SnapHead}
use Rattle.q3_entity.specs.Entities.{most_entities}
use Rattle.q3_rings.specs.Loans.{head_from}
use Rattle.q3_rings.specs.Rings.{HeldSnapshot, is_young, held_remains, older}

-- one whose entities are gone already grows older as any other
pub older_remains : (ring count : ℕ) (held : HeldSnapshot) → older ring count (held_remains ring held) ≡ older ring count held
older_remains ring count held = elim (cases_Bool (is_young ring held.age)) [
  | inl young ↦ rw young refl
  | inr old ↦
      let later : is_young ring (held.age + count) ≡ false = lt-leb (held.age + count) (ring - most_entities) (omega (arith, leb-false _ _ old)) in
      rw (old, later) refl
]

-- what is left depends on the entities only where they are there
pub remain_alike : (ring : ℕ) (head : SnapHead) (entities others : List EntityState) (age other : ℕ) → age ≡ other
    → (is_young ring other ≡ true → entities ≡ others)
    → held_remains ring (record { snapshot = record { head = head; entities = entities }; age = age })
    ≡ held_remains ring (record { snapshot = record { head = head; entities = others }; age = other })
remain_alike ring head entities others age other same alike = elim (cases_Bool (is_young ring other)) [
  | inl young ↦ let equal = alike young in rw (same, young, equal) refl
  | inr old ↦ rw (same, old) refl
]

-- one that has no entities where it is old is whole
pub remains_whole : (ring : ℕ) (held : HeldSnapshot) → (is_young ring held.age ≡ false → held.snapshot.entities ≡ []) → held_remains ring held ≡ held
remains_whole ring held none = elim (cases_Bool (is_young ring held.age)) [
  | inl young ↦ rw young refl
  | inr old ↦
      let is : held.snapshot.entities ≡ [] = none old in
      rw old (ap (λ (entities : List EntityState). record held { snapshot = record { head = held.snapshot.head; entities = entities } }) (sym is))
]

pub young_remains : (ring : ℕ) (held : HeldSnapshot) → is_young ring held.age ≡ true → held_remains ring held ≡ held
young_remains ring held young = rw young refl

-- a list that was just placed is there
pub new_remains : (ring : ℕ) (held : HeldSnapshot) → 512 ≤ ring → held.age ≤ most_entities → held_remains ring held ≡ held
new_remains ring held room few = young_remains ring held (le-leb held.age (ring - most_entities) (omega arith))

-- the head stays
pub remains_head : (ring : ℕ) (held : HeldSnapshot) → (held_remains ring held).snapshot.head ≡ held.snapshot.head
remains_head ring held = elim (cases_Bool (is_young ring held.age)) [
  | inl young ↦ rw young refl
  | inr old ↦ rw old refl
]

-- and the age
pub remains_head_from : (ring : ℕ) (held : HeldSnapshot) → head_from (held_remains ring held) ≡ head_from held
remains_head_from ring held = elim (cases_Bool (is_young ring held.age)) [
  | inl young ↦ rw young refl
  | inr old ↦ rw old refl
]

-- and there are no more entities
pub remains_few : (ring : ℕ) (held : HeldSnapshot) → length (held_remains ring held).snapshot.entities ≤ length held.snapshot.entities
remains_few ring held = elim (cases_Bool (is_young ring held.age)) [
  | inl young ↦ rw young (omega arith)
  | inr old ↦ rw old (omega arith)
]
