-- How snapshots are held: their entities lie in one ring.
use Rattle.std.specs.Prelude.{◌≡◌, ◌+◌, ◌*◌, ◌-◌, ◌^◌, ◌≤◌, true, length, map, All, option_map, IfSome}
use Rattle.q3_entity.specs.Entities.{Rises, most_entities}
use Rattle.q3_entity_ring.specs.declared.kept.Kept.{Kept}
use Rattle.q3_entity_ring.specs.Ring.{RingState, entities_from}
use Rattle.q3_entity_ring.specs.Kept.{snapshot_in}
use Rattle.q3_rings.specs.declared.rings.Rings.TheInside.{Inside}
use Rattle.q3_rings.specs.declared.rings.Back.{Back}
use Rattle.q3_rings.specs.Rings.{HeldSnapshot, HeldSnapshots, Begun, RingsState, AreHeldSnapshots, CanPutBack, is_young, held_remains}

-- a snapshot at its age
abbrev pub held_in : RingState → Kept → HeldSnapshot
held_in ring kept = record { snapshot = snapshot_in ring kept; age = ring.placed - kept.first }

-- a snapshot that is being put back
abbrev pub begun_in : RingState → Back → Begun
begun_in ring back = record {
  head = back.head;
  age = ring.placed - back.first;
  count = back.count;
  entities = entities_from ring back.first back.placed;
}

abbrev pub rings_in : Inside → RingsState
rings_in r = record {
  held = record {
    ring = length r.ring.recent;
    newest = r.newest;
    places = map (option_map (λ kept. held_remains (length r.ring.recent) (held_in r.ring kept))) r.places;
  };
  placed = r.ring.placed;
  begun = option_map (begun_in r.ring) r.begun;
}

-- the entities of what is kept were placed, and rise where they are there
pub record IsKept (ring : RingState) (kept : Kept) : Type 0 where
  pub placed : kept.first + kept.count ≤ ring.placed
  pub rises : is_young (length ring.recent) (held_in ring kept).age ≡ true → Rises (snapshot_in ring kept).entities

-- what is being put back has its place in the ring, and the entities that it has by now rise
pub record IsBack (held : HeldSnapshots) (ring : RingState) (back : Back) : Type 0 where
  pub within : back.first + back.count ≤ ring.placed
  pub begun : back.placed ≤ back.count
  pub can : CanPutBack held back.head.number (ring.placed - back.first) back.count
  pub rises : Rises (entities_from ring back.first back.placed)

-- numbers rise, so of each number at most one list was placed
pub record AreKept (r : Inside) : Type 0 where
  pub held : AreHeldSnapshots (rings_in r).held
  pub placed : r.ring.placed ≤ 2 ^ 32 + most_entities * r.newest
  pub each : All (λ place. IfSome place (IsKept r.ring)) r.places
  pub begun : IfSome r.begun (IsBack (rings_in r).held r.ring)
