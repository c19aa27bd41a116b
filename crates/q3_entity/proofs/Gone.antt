-- Along the entities of a base, those below a number are gone.
use Rattle.std.proofs.Common.{◌≡◌, ℕ, ◌<◌, ◌≤◌, Bool, false, eqb, List, [], ◌∷◌, ◌++◌, Some, refl, ap, ◌∙◌, arith, inl, inr}
use Rattle.std.proofs.lemmas.Bool.{cases_Bool, eqb-true, lt-ltb, le-ltb}
use Rattle.std.proofs.lemmas.Option.{none-some}
use Rattle.q3_fields.specs.Kinds.{Layout}
use Rattle.q3_entity.specs.declared.state.EntityState.{EntityState}
use Rattle.q3_entity.specs.Baselines.{Baselines}
use Rattle.q3_entity.specs.Delta.{removal, entity_delta}
use Rattle.q3_entity.specs.Lists.{piece}
use Rattle.q3_entity.specs.Runs.{taken, from_number}
use Rattle.q3_entity.specs.Merging.{removals, entry_bits, left_after}

-- one is removed
pub removals-next : (words : List (List Bool)) (table : Layout) (number : ℕ) (gone : EntityState) (others : List EntityState) → gone.number < number
    → removals words table number (gone ∷ others) ≡ removal words table gone.number ++ removals words table number others
unfolding removals
removals-next words table number gone others below = rw (lt-ltb gone.number number below) refl

-- none is
pub removals-stay : (words : List (List Bool)) (table : Layout) (number : ℕ) (entity : EntityState) (others : List EntityState) → number ≤ entity.number
    → removals words table number (entity ∷ others) ≡ []
unfolding removals
removals-stay words table number entity others above = rw (le-ltb entity.number number above) refl

pub removals-none : (words : List (List Bool)) (table : Layout) (number : ℕ) → removals words table number [] ≡ []
unfolding removals
removals-none words table number = refl

-- what is left then
pub from_number-next : (number : ℕ) (gone : EntityState) (others : List EntityState) → gone.number < number → from_number number (gone ∷ others) ≡ from_number number others
unfolding from_number
from_number-next number gone others below = rw (lt-ltb gone.number number below) refl

pub from_number-stay : (number : ℕ) (entity : EntityState) (others : List EntityState) → number ≤ entity.number → from_number number (entity ∷ others) ≡ entity ∷ others
unfolding from_number
from_number-stay number entity others above = rw (le-ltb entity.number number above) refl

pub from_number-none : (number : ℕ) → from_number number [] ≡ []
unfolding from_number
from_number-none number = refl

-- an entity with which the base begins
pub record IsFirst (words : List (List Bool)) (table : Layout) (baselines : Baselines) (base : List EntityState) (to first : EntityState) (others : List EntityState) : Type 0 where
  pub text : entry_bits words table baselines base to ≡ entity_delta words table first to false
  pub left : left_after to base ≡ others

pub is_first : (words : List (List Bool)) (table : Layout) (baselines : Baselines) (base : List EntityState) (to first : EntityState) (others : List EntityState)
    → taken to.number base ≡ (Some first, others) → IsFirst words table baselines base to first others
is_first words table baselines [] to first others found = absurd (none-some first (ap (λ p. p.0) found))
is_first words table baselines (entity ∷ base) to first others found =
    elim (cases_Bool (eqb entity.number to.number)) [
      | inl same ↦
          let number : entity.number ≡ to.number = eqb-true entity.number to.number same in
          let stay = removals-stay words table to.number entity base (omega arith) in
          let run = ap (taken to.number) (from_number-stay to.number entity base (omega arith)) ∙ found in
          record {
            text = rw stay (ap (λ p. piece words table baselines to.number p.0 (Some to)) run);
            left = ap (λ p. p.1) run;
          }
      | inr other ↦ absurd (none-some first (ap (λ p. p.0) (rw other at found)))
    ]
