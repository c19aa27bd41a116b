-- What the program lends of a snapshot.
use Rattle.std.specs.Prelude.{ℕ, ◌-◌, ◌%◌, min, length, Result, Ok, Err}
use Rattle.q3_player.specs.declared.head.SnapHead.{SnapHead}
use Rattle.q3_entity.specs.Entities.{run_of}
use Rattle.q3_entity_ring.specs.Snapshot.{Snapshot}
use Rattle.q3_rings.specs.declared.rings.NoBase.{NoBase}
use Rattle.q3_rings.specs.declared.views.SnapView.{SnapView}
use Rattle.q3_rings.specs.declared.views.Held.{Held}
use Rattle.q3_rings.specs.Rings.{HeldSnapshot, RingsState}

-- a view of a snapshot, as what it is
abbrev pub snapshot_of : SnapView → Snapshot
snapshot_of view = record {
  head = record {
    number = view.number;
    time = view.time;
    flags = view.flags;
    area = record { items = view.area.now };
    player = view.player.now;
  };
  entities = run_of view.entities;
}

abbrev pub viewed : Result SnapView NoBase → Result Snapshot NoBase
viewed (Ok view) = Ok (snapshot_of view)
viewed (Err cause) = Err cause

-- how many entities of a snapshot that is held lie up to the ring's end: each lies in the place of its number, among all that were
-- placed, modulo the ring's room
abbrev pub before_end : RingsState → HeldSnapshot → ℕ
before_end rings held = min (length held.snapshot.entities) (rings.held.ring - (rings.placed - held.age) % rings.held.ring)

-- a head and an age
abbrev pub head_of : Held → SnapHead × ℕ
head_of held = (held.head.now, held.age)

abbrev pub head_from : HeldSnapshot → SnapHead × ℕ
head_from held = (held.snapshot.head, held.age)
