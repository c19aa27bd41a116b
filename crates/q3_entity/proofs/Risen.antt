-- Entities whose numbers rise, as a finite map.
use Rattle.std.proofs.Common.{◌≡◌, ◌≢◌, inl, inr, ℕ, ◌+◌, ◌<◌, ◌≤◌, true, false, eqb, List, [], ◌∷◌, ◌++◌, Some, None, refl, sym, ◌∙◌, arith}
use Rattle.std.proofs.lemmas.Bool.{eq-eqb, ne_eqb, cases_eq, cases_lt}
use Rattle.q3_entity.specs.declared.state.EntityState.{EntityState}
use Rattle.q3_entity.specs.Entities.{RiseFrom, with_number}
use Rattle.q3_entity.specs.Runs.{taken, from_number}
use Rattle.q3_entity.proofs.Gone.{from_number-next, from_number-stay, from_number-none}

-- they also rise from a lower number on
pub rise-lower : (limit most least : ℕ) (entities : List EntityState) → least ≤ most → RiseFrom limit most entities → RiseFrom limit least entities
rise-lower limit most least [] le rise = tt
rise-lower limit most least (entity ∷ others) le rise = (omega (arith, le, rise.0), rise.1, rise.2)

-- and after others
pub rise-after : (limit : ℕ) (front entities : List EntityState) → RiseFrom limit 0 (front ++ entities) → RiseFrom limit 0 entities
rise-after limit [] entities rise = rise
rise-after limit (entity ∷ front) entities rise =
    rise-after limit front entities (rise-lower limit (entity.number + 1) 0 (front ++ entities) (omega arith) rise.2)

-- the front of entities that rise
pub rise-front : (limit least : ℕ) (front others : List EntityState) → RiseFrom limit least (front ++ others) → RiseFrom limit least front
rise-front limit least [] others rise = tt
rise-front limit least (entity ∷ front) others rise = (rise.0, rise.1, rise-front limit (entity.number + 1) front others rise.2)

-- the first is found under its number
pub with_number-first : (entity : EntityState) (others : List EntityState) → with_number entity.number (entity ∷ others) ≡ Some entity
with_number-first entity others = rw (eq-eqb entity.number entity.number refl) refl

pub with_number-after : (number : ℕ) (entity : EntityState) (others : List EntityState) → entity.number ≢ number → with_number number (entity ∷ others) ≡ with_number number others
with_number-after number entity others other = rw (ne_eqb entity.number number other) refl

-- below the least number there is none
pub with_number-below : (limit least number : ℕ) (entities : List EntityState) → RiseFrom limit least entities → number < least → with_number number entities ≡ None
with_number-below limit least number [] rise below = refl
with_number-below limit least number (entity ∷ others) rise below =
    with_number-after number entity others (omega (arith, rise.0, below))
    ∙ with_number-below limit (entity.number + 1) number others rise.2 (omega (arith, rise.0, below))

-- from a number on
pub from_number-rises : (limit least number : ℕ) (entities : List EntityState) → RiseFrom limit least entities → RiseFrom limit number (from_number number entities)
from_number-rises limit least number [] rise = rw (from_number-none number) tt
from_number-rises limit least number (entity ∷ others) rise =
    elim (cases_lt entity.number number) [
      | inl below ↦ rw (from_number-next number entity others below) (from_number-rises limit (entity.number + 1) number others rise.2)
      | inr above ↦ rw (from_number-stay number entity others above) (above, rise.1, rise.2)
    ]

-- from the limit on there is none
pub from_number-limit : (limit least : ℕ) (entities : List EntityState) → RiseFrom limit least entities → from_number limit entities ≡ []
from_number-limit limit least [] rise = from_number-none limit
from_number-limit limit least (entity ∷ others) rise =
    from_number-next limit entity others rise.1 ∙ from_number-limit limit (entity.number + 1) others rise.2

-- the entity of the least number is taken, if there is one, and the others rise from the next number on
pub record IsTaken (limit number : ℕ) (entities : List EntityState) : Type 0 where
  pub found : (taken number entities).0 ≡ with_number number entities
  pub rise : RiseFrom limit (number + 1) (taken number entities).1
  pub after : (n : ℕ) → number < n → with_number n entities ≡ with_number n (taken number entities).1

pub is_taken : (limit number : ℕ) (entities : List EntityState) → RiseFrom limit number entities → IsTaken limit number entities
is_taken limit number [] rise = record { found = refl; rise = tt; after = λ n h. refl }
is_taken limit number (entity ∷ others) rise =
    elim (cases_eq entity.number number) [
      | inl here ↦
          let test : eqb entity.number number ≡ true = eq-eqb entity.number number here in
          record {
            found = rw test refl;
            rise = rw test (rise-lower limit (entity.number + 1) (number + 1) others (omega (arith, here)) rise.2);
            after = λ n above. rw test (with_number-after n entity others (omega (arith, here, above)));
          }
      | inr other ↦
          let test : eqb entity.number number ≡ false = ne_eqb entity.number number other in
          record {
            found = rw test (sym (with_number-below limit (entity.number + 1) number others rise.2 (omega (arith, rise.0))));
            rise = rw test (omega (arith, rise.0, other), rise.1, rise.2);
            after = λ n above. rw test refl;
          }
    ]
