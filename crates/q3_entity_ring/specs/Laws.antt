-- Laws of a ring of entities.
use Rattle.std.specs.Prelude.{◌≡◌, ℕ, ◌+◌, ◌<◌, ◌≤◌, List, [], ◌∷◌, ◌++◌, length}
use Rattle.q3_entity.specs.declared.state.EntityState.{EntityState}
use Rattle.q3_entity_ring.specs.Ring.{RingState, with_entities, with_entity_at, entities_from}

-- entities that were just placed are those from the count before them on
abbrev pub PlacedIsThere : Type 0
PlacedIsThere = (ring : RingState) (entities : List EntityState) → length entities ≤ length ring.recent
    → entities_from (with_entities ring entities) ring.placed (length entities) ≡ entities

-- entities that were placed before stay the same, as long as no more are placed from the first of them on than there is room for
abbrev pub OthersStay : Type 0
OthersStay = (ring : RingState) (entities : List EntityState) (first count : ℕ) → first + count ≤ ring.placed
    → ring.placed + length entities ≤ first + length ring.recent
    → entities_from (with_entities ring entities) first count ≡ entities_from ring first count

-- an entity that is put where one was placed is one more after those in front of it
abbrev pub PutIsNext : Type 0
PutIsNext = (ring : RingState) (entity : EntityState) (first count : ℕ) → first + count < ring.placed → ring.placed ≤ first + length ring.recent
    → entities_from (with_entity_at ring (first + count) entity) first (count + 1) ≡ entities_from ring first count ++ entity ∷ []

-- and those in front of it stay the same
abbrev pub PutLeavesOthers : Type 0
PutLeavesOthers = (ring : RingState) (entity : EntityState) (number first count : ℕ) → first + count ≤ number → number < ring.placed
    → ring.placed ≤ first + length ring.recent → entities_from (with_entity_at ring number entity) first count ≡ entities_from ring first count
