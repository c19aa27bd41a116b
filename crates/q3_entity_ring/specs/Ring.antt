-- Entities of which those that were placed last are kept.
use Rattle.std.specs.Prelude.{◌≡◌, ◌⊎◌, ℕ, ◌+◌, ◌-◌, List, ◌++◌, length, replicate, take, drop, slice_set}
use Rattle.q3_entity.specs.declared.state.EntityState.{EntityState}
use Rattle.q3_entity.specs.Entities.{zero_entity}

-- how many entities were ever placed, and the last of them in their order, as many as there is room for; as long as fewer
-- were placed, zero states stand in front of them
pub record RingState : Type 0 where
  pub placed : ℕ
  pub recent : List EntityState

-- room for so many, and none was placed
abbrev pub new_ring : ℕ → RingState
new_ring room = record { placed = 0; recent = replicate room (zero_entity 0) }

-- entities are placed after all others, and as many of the oldest are gone
abbrev pub with_entities : RingState → List EntityState → RingState
with_entities ring entities = record {
  placed = ring.placed + length entities;
  recent = drop (length entities) (ring.recent ++ entities);
}

-- another entity lies where the one was placed that has this number among all that were ever placed, from 0
abbrev pub with_entity_at : RingState → ℕ → EntityState → RingState
with_entity_at ring number entity = record ring { recent = slice_set ring.recent (number + length ring.recent - ring.placed) entity }

-- so many entities from one on, which has its number among all that were ever placed, from 0
abbrev pub entities_from : RingState → ℕ → ℕ → List EntityState
entities_from ring first count = take count (drop (first + length ring.recent - ring.placed) ring.recent)

-- the entities that were placed last are these, from this one on
pub record EndsWith (ring : RingState) (entities : List EntityState) (first : ℕ) : Type 0 where
  pub end : first + length entities ≡ ring.placed
  pub same : entities_from ring first (length entities) ≡ entities

-- entities lie in the ring from this one on: placed after all others, or once with those that were placed last
abbrev pub PlacesOnce : RingState → RingState → List EntityState → ℕ → Type 0
PlacesOnce old new entities first =
    ((new ≡ with_entities old entities) × (first ≡ old.placed)) ⊎ ((new ≡ old) × EndsWith old entities first)
