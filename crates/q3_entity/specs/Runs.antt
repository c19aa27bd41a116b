-- What is left of a run: a writer and a reader of a list go along it by number.
use Rattle.std.specs.Prelude.{◌≡◌, ◌==◌, ◌≤◌, ℕ, nat_lt, if◌then◌else◌, List, [], ◌∷◌, ◌++◌, Option, Some, None}
use Rattle.q3_entity.specs.declared.state.EntityState.{EntityState}

-- the entity of a number, where it is the first, and those after it
abbrev pub taken : ℕ → List EntityState → Option EntityState × List EntityState
taken number [] = (None, [])
taken number (entity ∷ base) = if entity.number == number then (Some entity, base) else (None, entity ∷ base)

-- the entities from a number on
unfoldable pub from_number : ℕ → List EntityState → List EntityState
from_number number [] = []
from_number number (entity ∷ base) = if nat_lt entity.number number then from_number number base else entity ∷ base

-- two lists begin with the same entities, and these are what follows
pub record ShareFront (base now base' now' : List EntityState) : Type 0 where
  pub front : List EntityState
  pub base-is : base ≡ front ++ base'
  pub now-is : now ≡ front ++ now'

-- the first entity, if there is one, isn't below a number
abbrev pub IsFrom : ℕ → List EntityState → Type 0
IsFrom number [] = Unit {0}
IsFrom number (entity ∷ others) = number ≤ entity.number
