use Rattle.std.proofs.Common.{◌≡◌, ◌∙◌, List, Option, get_or, ap, arith}
use Rattle.std.specs.Prelude.{option_map}
use Rattle.q3_config.specs.Laws.{piece_texts}
use Rattle.q3_slot.specs.Slot.{SlotState}
use Rattle.q3_slot.specs.Slots.{lacks_room, tells}
use Rattle.q3_server.proofs.Mapped.{item_stays, change_more, none_passes}
use Rattle.q3_server.proofs.slots.tell_all.Goals as goal

pub tell-requires-clause-room : goal.tell-requires-clause-room
tell-requires-clause-room c =
    let texts = piece_texts c.args.index c.args.text.now in
    let slots = c.args.slots.now in
    let k = c.loop-slot.slot-index in
    let item = c.slot-item.result in
    let now : get_or c.loop-slot.slots k item ≡ get_or slots k item =
    ap (λ (ys : List (Option SlotState)). get_or ys k item) c.loop-slot.invariant ∙ item_stays (option_map (tells texts)) k slots item (omega arith) in
    ap (lacks_room texts) now ∙ none_passes (lacks_room texts) slots k item c.requires.room (omega arith)

pub loop-slot-preserved : goal.loop-slot-preserved
loop-slot-preserved c =
    change_more (option_map (tells (piece_texts c.args.index c.args.text.now))) c.loop-slot.slot-index c.args.slots.now c.loop-slot.slots c.slot-item.result
    c.tell.new.self (omega arith) c.loop-slot.invariant c.tell.ensures
