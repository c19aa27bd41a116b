use Rattle.std.proofs.Common.{◌≡◌}
use Rattle.std.specs.Prelude.{option_map}
use Rattle.q3_slot.specs.Slot.{on_new_map}
use Rattle.q3_server.proofs.Mapped.{changed}
use Rattle.q3_server.proofs.slots.begin_map.Given as goal

-- the map began for the slots up to here
abbrev pub invariant-loop-slot : goal.invariant-loop-slot
invariant-loop-slot l = l.slots ≡ changed (option_map on_new_map) l.slot-index l.initial.slots
