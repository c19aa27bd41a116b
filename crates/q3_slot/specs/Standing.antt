-- What the types of its parts tell of a slot, whatever was handed in and whatever came.
use Rattle.std.specs.Prelude.{◌^◌, ◌<◌}
use Rattle.q3_text.specs.Texts.{IsText}
use Rattle.q3_window.specs.Outgoing.{IsOutgoing}
use Rattle.q3_built.specs.Built.{IsArea}
use Rattle.q3_slot.specs.Slot.{SlotState}

-- a slot as the program's types hold it: its window is one of commands, the number of the last client command executed fits a long, that
-- command's text is one, and its area bytes are bytes and few
pub record IsSlot (slot : SlotState) : Type 0 where
  pub window : IsOutgoing slot.issued
  pub executed : slot.executed.executed < 2 ^ 32
  pub last : IsText slot.executed.last
  pub area : IsArea slot.area.items
