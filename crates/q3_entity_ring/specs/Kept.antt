-- What is kept of a snapshot whose entities lie in a ring.
use Rattle.q3_entity_ring.specs.declared.kept.Kept.{Kept}
use Rattle.q3_entity_ring.specs.Snapshot.{Snapshot}
use Rattle.q3_entity_ring.specs.Ring.{RingState, entities_from}

-- the snapshot, as far as the ring still has its entities
abbrev pub snapshot_in : RingState → Kept → Snapshot
snapshot_in ring kept = record { head = kept.head; entities = entities_from ring kept.first kept.count }
