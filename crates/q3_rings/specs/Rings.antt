-- The snapshots that a client accepted, as far as they are held.
use Rattle.std.specs.Prelude.{◌≡◌, ℕ, ◌+◌, ◌-◌, ◌<◌, ◌≤◌, ◌==◌, nat_le, if◌then◌else◌, Bool, false, List, [], ◌∷◌, ◌++◌, length, map, slice_index_or, Option, Some, None, option_map, IfSome, Result, Ok, Err}
use Rattle.std.specs.Result.{result_ok}
use Rattle.q3_entity.specs.declared.state.EntityState.{EntityState}
use Rattle.q3_entity.specs.Entities.{most_entities}
use Rattle.q3_player.specs.declared.head.SnapHead.{SnapHead}
use Rattle.q3_entity_ring.specs.Snapshot.{Snapshot, without_entities}
use Rattle.q3_entity_ring.specs.Places.{most_places, place_of, no_places, at_number, put_at_number}
use Rattle.q3_rings.specs.declared.rings.NoBase.{NoBase}
use Rattle.q3_rings.specs.declared.rings.NoBase.TheVariants.{NeverHeld, Overwritten, EntitiesGone}

-- a snapshot that is held, and its age: how many entities were placed since it was begun, its own among them
pub record HeldSnapshot : Type 0 where
  pub snapshot : Snapshot
  pub age : ℕ

-- for how many entities the ring has room, the newest number accepted, 0 for none, and the snapshots, each in the place of
-- its number modulo 32
pub record HeldSnapshots : Type 0 where
  pub ring : ℕ
  pub newest : ℕ
  pub places : List (Option HeldSnapshot)

-- none was accepted
abbrev pub no_snapshots : ℕ → HeldSnapshots
no_snapshots ring = record { ring = ring; newest = 0; places = no_places }

-- ---- a message's base

-- whether the entities of a snapshot of this age are there: a whole list more has room after them
abbrev pub is_young : ℕ → ℕ → Bool
is_young ring age = nat_le age (ring - most_entities)

-- a snapshot that is held, or how old it is
abbrev pub young : ℕ → HeldSnapshot → Result Snapshot NoBase
young ring held = if is_young ring held.age then Ok held.snapshot else Err (EntitiesGone held.age)

-- what stands in the place of a number, as the snapshot of that very number
abbrev pub snapshot_under : ℕ → ℕ → Option HeldSnapshot → Result Snapshot NoBase
snapshot_under ring number None = Err NeverHeld
snapshot_under ring number (Some held) =
    if held.snapshot.head.number == number then young ring held else Err (Overwritten held.snapshot.head.number)

-- the snapshot of a number, or why it isn't held; 0 is no number
abbrev pub held_snapshot : HeldSnapshots → ℕ → Result Snapshot NoBase
held_snapshot snapshots number = if number == 0 then Err NeverHeld else snapshot_under snapshots.ring number (at_number snapshots.places number)

-- the snapshot of a number, if it is held
abbrev pub view_at : HeldSnapshots → ℕ → Option Snapshot
view_at snapshots number = result_ok (held_snapshot snapshots number)

-- ---- what is accepted

-- a snapshot of which others may have taken the entities' places has none any more
abbrev pub held_remains : ℕ → HeldSnapshot → HeldSnapshot
held_remains ring held = if is_young ring held.age then held else record held { snapshot = without_entities held.snapshot }

-- a snapshot after which so many entities more were placed
abbrev pub older : ℕ → ℕ → HeldSnapshot → HeldSnapshot
older ring count held = held_remains ring (record held { age = held.age + count })

-- a snapshot is accepted: all others are older by its entities
abbrev pub accept_at : HeldSnapshots → Snapshot → HeldSnapshots
accept_at snapshots snapshot = record snapshots {
  newest = snapshot.head.number;
  places = put_at_number (map (option_map (older snapshots.ring (length snapshot.entities))) snapshots.places) snapshot.head.number
      (record { snapshot = snapshot; age = length snapshot.entities });
}

-- ---- what is put back

-- a snapshot is held again, at the age that it had, and all others stay as they are
abbrev pub put_back_at : HeldSnapshots → HeldSnapshot → HeldSnapshots
put_back_at snapshots held = record snapshots {
  newest = held.snapshot.head.number;
  places = put_at_number snapshots.places held.snapshot.head.number held;
}

-- a snapshot of this number and age, with so many entities, may be put back: it is newer than all others, each of which has an age of at
-- least its own entities and this age; and it has none where it is so old that they are gone
pub record CanPutBack (snapshots : HeldSnapshots) (number age count : ℕ) : Type 0 where
  pub newer : snapshots.newest < number
  pub few : count ≤ most_entities
  pub counted : count ≤ age
  pub gone : is_young snapshots.ring age ≡ false → count ≡ 0
  pub older : (place : ℕ) → IfSome (slice_index_or snapshots.places place None) (λ held. length held.snapshot.entities + age ≤ held.age)

-- ---- the whole of it

-- a snapshot that is being put back: what is said of it, its age, how many entities it has, and those that were placed by now
pub record Begun : Type 0 where
  pub head : SnapHead
  pub age : ℕ
  pub count : ℕ
  pub entities : List EntityState

-- the snapshots, how many entities were placed since they were wiped, and the one that is being put back, if one is
pub record RingsState : Type 0 where
  pub held : HeldSnapshots
  pub placed : ℕ
  pub begun : Option Begun

abbrev pub no_rings : ℕ → RingsState
no_rings ring = record { held = no_snapshots ring; placed = 0; begun = None }

abbrev pub accept_in : RingsState → Snapshot → RingsState
accept_in rings snapshot = record rings { held = accept_at rings.held snapshot; placed = rings.placed + length snapshot.entities }

-- nothing is held, and so many entities count as placed
abbrev pub restored : RingsState → ℕ → RingsState
restored rings placed = record (no_rings rings.held.ring) { placed = placed }

-- a snapshot is put back: how many entities count as placed stays as it is
abbrev pub put_back_in : RingsState → HeldSnapshot → RingsState
put_back_in rings held = record rings { held = put_back_at rings.held held }

-- and entity by entity: it is begun, an entity is placed, and it is held
abbrev pub begin_in : RingsState → SnapHead → ℕ → ℕ → RingsState
begin_in rings head age count = record rings { begun = Some (record { head = head; age = age; count = count; entities = [] }) }

abbrev pub place_in : RingsState → EntityState → RingsState
place_in rings entity = record rings { begun = option_map (λ (begun : Begun). record begun { entities = begun.entities ++ entity ∷ [] }) rings.begun }

-- what is begun, as what is held then
abbrev pub held_of : Begun → HeldSnapshot
held_of begun = record { snapshot = record { head = begun.head; entities = begun.entities }; age = begun.age }

abbrev pub end_with : RingsState → Option Begun → RingsState
end_with rings None = rings
end_with rings (Some begun) = record (put_back_in rings (held_of begun)) { begun = None }

abbrev pub end_in : RingsState → RingsState
end_in rings = end_with rings rings.begun

-- a snapshot that is held in a place: its number belongs there, isn't 0, and isn't above the newest, and its age counts its
-- entities that are there
pub record IsHeldIn (newest place : ℕ) (held : HeldSnapshot) : Type 0 where
  pub here : place_of held.snapshot.head.number ≡ place
  pub some : 0 < held.snapshot.head.number
  pub accepted : held.snapshot.head.number ≤ newest
  pub counted : length held.snapshot.entities ≤ held.age

-- of two snapshots the one of the lower number is older, by its entities that are there at least
abbrev pub IsOlder : HeldSnapshot → HeldSnapshot → Type 0
IsOlder one other = one.snapshot.head.number < other.snapshot.head.number → length one.snapshot.entities + other.age ≤ one.age

-- what every such value is
pub record AreHeldSnapshots (snapshots : HeldSnapshots) : Type 0 where
  pub ring : 512 ≤ snapshots.ring
  pub count : length snapshots.places ≡ most_places
  pub each : (place : ℕ) → IfSome (slice_index_or snapshots.places place None) (IsHeldIn snapshots.newest place)
  pub ages : (place other : ℕ) → IfSome (slice_index_or snapshots.places place None) (λ one. IfSome (slice_index_or snapshots.places other None) (IsOlder one))
