-- How a ring keeps its entities.
use Rattle.std.specs.Prelude.{◌%◌, ◌<◌, ◌≤◌, length, min, vec_capacity}
use Rattle.q3_entity.specs.Entities.{zero_entity}
use Rattle.q3_entity_ring.specs.declared.ring.Ring.TheInside.{Inside}
use Rattle.q3_entity_ring.specs.Turned.{turned, filled}
use Rattle.q3_entity_ring.specs.Ring.{RingState}

-- the oldest entity stands in the place of the next one; a place that was never written stands for a zero state
abbrev pub ring_in : Inside → RingState
ring_in r = record { placed = r.placed; recent = turned (r.placed % r.room) (filled (zero_entity 0) r.room r.cells.items) }

-- there are places; those that were written are the first ones, no fewer than were placed or all of them, and there is memory for all
abbrev pub IsRing : Inside → Type 0
IsRing r = (0 < r.room) × (min r.placed r.room ≤ length r.cells.items) × (length r.cells.items ≤ r.room) × (r.room ≤ vec_capacity r.cells)
