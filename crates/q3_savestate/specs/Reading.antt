-- How the program reads the snapshots of a state: each is put back into a client's ring as it is read.
use Rattle.std.specs.Prelude.{◌≡◌, ℕ, ◌+◌, ◌-◌, ◌<◌, ◌≤◌, List, ◌++◌, length, slice_index_or, None, option_map, IfSome, Result, Ok, Err}
use Rattle.q3_entity.specs.declared.state.EntityState.{EntityState}
use Rattle.q3_rings.specs.Rings.{HeldSnapshot, HeldSnapshots, Begun, RingsState, no_snapshots, put_back_at}
use Rattle.q3_savestate.specs.Cursor.{Cursor, Field}

-- what is read, as another value
abbrev pub as_field : {X Y : Type 0} → (X → Y) → Field X → Field Y
as_field f (Ok x) = Ok (f x.0, x.1)
as_field f (Err at) = Err at

-- what a call answers, as another value
abbrev pub read_as : {X Y : Type 0} → (X → Y) → Result X ℕ → Result Y ℕ
read_as f (Ok x) = Ok (f x)
read_as f (Err at) = Err at

-- what a call answers that moves a cursor on, and what it put into its place
abbrev pub found_with : {X Y : Type 0} → Result X ℕ → Y → Cursor → Field (X × Y)
found_with (Ok x) y cursor = Ok ((x, y), cursor)
found_with (Err at) y cursor = Err at

-- entities are placed after those of the snapshot that is being put back
abbrev pub placed_in : RingsState → List EntityState → RingsState
placed_in rings entities =
    record rings { begun = option_map (λ (begun : Begun). record begun { entities = begun.entities ++ entities }) rings.begun }

-- what a snapshot leaves that is read: the greatest age of the next, which is older than none by its own entities, and all that is held then
abbrev pub left_by_one : HeldSnapshots → HeldSnapshot → ℕ × HeldSnapshots
left_by_one held one = (one.age - length one.snapshot.entities, put_back_at held one)

-- a snapshot of at most this age may be put back into a ring with so much room: after the first, so many entities count as placed, and all
-- that is held is older, each by its own entities
pub record MayPutBack (room most : ℕ) (rings : RingsState) : Type 0 where
  pub room_is : rings.held.ring ≡ room
  pub none : rings.begun ≡ None
  pub first : rings.held.newest ≡ 0 → rings.held ≡ no_snapshots room
  pub placed : 0 < rings.held.newest → most ≤ rings.placed
  pub older : (place : ℕ) → IfSome (slice_index_or rings.held.places place None) (λ held. length held.snapshot.entities + most ≤ held.age)
