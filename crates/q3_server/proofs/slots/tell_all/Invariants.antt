use Rattle.std.proofs.Common.{◌≡◌}
use Rattle.std.specs.Prelude.{option_map}
use Rattle.q3_config.specs.Laws.{piece_texts}
use Rattle.q3_slot.specs.Slots.{tells}
use Rattle.q3_server.proofs.Mapped.{changed}
use Rattle.q3_server.proofs.slots.tell_all.Given as goal

-- the slots up to here were told
abbrev pub invariant-loop-slot : goal.invariant-loop-slot
invariant-loop-slot l = l.slots ≡ changed (option_map (tells (piece_texts l.index l.text))) l.slot-index l.initial.slots
