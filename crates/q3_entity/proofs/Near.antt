-- Entities that rise by number: how many can be below one.
use Rattle.std.proofs.Common.{◌≡◌, ℕ, ◌+◌, ◌-◌, ◌<◌, ◌≤◌, List, [], ◌∷◌, length, take, drop, get_or, All, zero, suc, inl, inr, min, arith}
use Rattle.std.proofs.lemmas.List.{get_or-take, length-take-le, drop_all}
use Rattle.std.proofs.lemmas.Bool.{cases_lt}
use Rattle.q3_entity.specs.declared.state.EntityState.{EntityState}
use Rattle.q3_entity.specs.Entities.{RiseFrom}
use Rattle.q3_entity.specs.Runs.{IsFrom}

-- each is at least the least
pub at_least : (limit least k : ℕ) (part : List EntityState) (none : EntityState) → RiseFrom limit least part → k < length part → least ≤ (get_or part k none).number
at_least limit least k [] none rise there = omega (arith, there)
at_least limit least zero (entity ∷ others) none rise there = rise.0
at_least limit least (suc k) (entity ∷ others) none rise there =
    let later = at_least limit (entity.number + 1) k others none rise.2 (omega (arith, there)) in
    omega (arith, rise.0, later)

-- and at least those before it
pub rise-order : (limit least i k : ℕ) (part : List EntityState) (none none' : EntityState) → RiseFrom limit least part → i ≤ k → k < length part
    → (get_or part i none).number ≤ (get_or part k none').number
rise-order limit least i k [] none none' rise le there = omega (arith, there)
rise-order limit least zero zero (entity ∷ others) none none' rise le there = omega arith
rise-order limit least zero (suc k) (entity ∷ others) none none' rise le there =
    let later = at_least limit (entity.number + 1) k others none' rise.2 (omega (arith, there)) in
    omega (arith, later)
rise-order limit least (suc i) zero (entity ∷ others) none none' rise le there = omega (arith, le)
rise-order limit least (suc i) (suc k) (entity ∷ others) none none' rise le there =
    rise-order limit (entity.number + 1) i k others none none' rise.2 (omega (arith, le)) (omega (arith, there))

-- where the last of the first ones is below a number, they all are
pub below-before : (limit least number n : ℕ) (part : List EntityState) (none : EntityState) → RiseFrom limit least part → n ≤ length part → 0 < n
    → (get_or part (n - 1) none).number < number → All (λ entity. entity.number < number) (take n part)
below-before limit least number n part none rise most some below =
    λ k d there.
    let within : k < n = omega (arith, there, length-take-le n part most) in
    let order = rise-order limit least k (n - 1) part d none rise (omega (arith, within)) (omega (arith, most, some)) in
    rw (get_or-take n part k d within) (omega (arith, order, below))

-- a lower bound than another
from-lower : (number higher : ℕ) (part : List EntityState) → number ≤ higher → IsFrom higher part → IsFrom number part
from-lower number higher [] le from = tt
from-lower number higher (entity ∷ others) le from = omega (arith, le, from)

-- so many further on they are so much higher
rise-drop : (limit least n : ℕ) (part : List EntityState) → RiseFrom limit least part → IsFrom (least + n) (drop n part)
rise-drop limit least zero [] rise = tt
rise-drop limit least zero (entity ∷ others) rise = omega (arith, rise.0)
rise-drop limit least (suc n) [] rise = tt
rise-drop limit least (suc n) (entity ∷ others) rise =
    from-lower (least + suc n) (entity.number + 1 + n) (drop n others) (omega (arith, rise.0)) (rise-drop limit (entity.number + 1) n others rise.2)

-- what follows as many as there are below a number where numbers follow each other
pub from-near : (limit number n : ℕ) (part : List EntityState) (none : EntityState) → RiseFrom limit 0 part
    → n ≡ min (number - (get_or part 0 none).number) (length part) → IsFrom number (drop n part)
from-near limit number n [] none rise is = rw (drop_all {X = EntityState} n [] (omega arith)) tt
from-near limit number n (entity ∷ others) none rise is =
    elim (cases_lt (length others + 1) (number - entity.number)) [
      | inl short ↦ rw (drop_all n (entity ∷ others) (omega (arith, is, short))) tt
      | inr long ↦ from-lower number (entity.number + n) (drop n (entity ∷ others)) (omega (arith, is, long))
          (rise-drop limit entity.number n (entity ∷ others) (omega arith, rise.1, rise.2))
    ]
