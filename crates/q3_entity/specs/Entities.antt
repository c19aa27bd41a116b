-- Entities: what the program's type holds, the zero state, the normal form, and lists of them by number.
use Rattle.std.specs.Prelude.{◌≡◌, ℕ, ◌+◌, ◌==◌, ◌^◌, ◌<◌, ◌≤◌, List, [], ◌∷◌, ◌++◌, length, replicate, All, find, Option}
use Rattle.q3_fields.specs.Kinds.{Layout, end_mark}
use Rattle.q3_fields.specs.States.{AreWords, normal_words}
use Rattle.q3_entity.specs.declared.state.EntityState.{EntityState}
use Rattle.q3_entity.specs.declared.state.Run.{Run}

-- the state with nothing in it, under a number
unfoldable pub zero_entity : ℕ → EntityState
zero_entity number = record { number = number; words = replicate 64 0 }

-- a state in normal form
abbrev pub normal_entity : Layout → EntityState → EntityState
normal_entity table entity = record entity { words = normal_words table.kinds entity.words }

abbrev pub IsNormal : Layout → EntityState → Type 0
IsNormal table entity = normal_entity table entity ≡ entity

-- the numbers rise, from least on, and stay below a limit
abbrev pub RiseFrom : ℕ → ℕ → List EntityState → Type 0
RiseFrom limit least [] = Unit {0}
RiseFrom limit least (entity ∷ others) = (least ≤ entity.number) × (entity.number < limit) × RiseFrom limit (entity.number + 1) others

-- the most entities of a list
abbrev pub most_entities : ℕ
most_entities = 256

-- a list of entities: the numbers rise and are below the end mark, and there are at most 256
pub record IsList (table : Layout) (entities : List EntityState) : Type 0 where
  pub rise : RiseFrom (end_mark table) 0 entities
  pub few : length entities ≤ most_entities

-- entities that rise by number, whatever their numbers are, at most 256 of them
pub record Rises (entities : List EntityState) : Type 0 where
  pub rise : RiseFrom (2 ^ 16) 0 entities
  pub few : length entities ≤ most_entities

-- states as the program's type holds them
abbrev pub AreStates : List EntityState → Type 0
AreStates entities = All (λ entity. AreWords 64 entity.words) entities

abbrev pub AreNormal : Layout → List EntityState → Type 0
AreNormal table entities = All (IsNormal table) entities

-- the state under a number: a list is a finite map
abbrev pub with_number : ℕ → List EntityState → Option EntityState
with_number number entities = find (λ entity. entity.number == number) entities

-- the entities of a run: two pieces, one after the other
abbrev pub run_of : Run → List EntityState
run_of run = run.head.now ++ run.tail.now
