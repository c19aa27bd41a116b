use Rattle.std.proofs.Common.{arith}
use Rattle.std.specs.Prelude.{option_map}
use Rattle.q3_slot.specs.Slot.{on_new_map}
use Rattle.q3_server.proofs.Mapped.{change_more}
use Rattle.q3_server.proofs.slots.begin_map.Goals as goal

pub loop-slot-preserved : goal.loop-slot-preserved
loop-slot-preserved c =
    change_more (option_map on_new_map) c.loop-slot.slot-index c.args.slots.now c.loop-slot.slots c.slot-item.result c.on_new_map.new.self
    (omega arith) c.loop-slot.invariant c.on_new_map.ensures
