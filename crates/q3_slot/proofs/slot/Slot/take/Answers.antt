use Rattle.std.proofs.Common.{◌≡◌, ◌∙◌, Some, sym, ap, rules}
use Rattle.q3_clmsg.specs.Values.{said_of}
use Rattle.q3_slot.specs.Slot.{SlotState}
use Rattle.q3_slot.specs.Slots.{answer_to, came_of, heard_of, slot_of, slot_after_datagram}
use Rattle.q3_slot.specs.Taking.{SlotTaken, run_read, take_slot}
use Rattle.q3_slot.proofs.Taken.{whole_is_taken}
use Rattle.q3_slot.proofs.slot.Slot.take.Goals as goal

-- the slot before
abbrev first : goal.After-run → SlotState
first c = slot_of c.self.inside.sender c.self.inside.gatherer c.self.inside.issued c.in-Some.client

is_first : (c : goal.After-run) → Some (first c) ≡ c.args.self.now
is_first c = search rules

-- what the message does to it
taken : (c : goal.After-run)
    → run_read c.args.map.now (slot_of c.self.inside.sender c.take.new.self c.self.inside.issued c.set_address.new.self) c.args.slot c.in-Whole.number
    (came_of (said_of c.read-read.new.into) c.read-read.result)
    ≡ take_slot c.args.profile.now c.args.map.now c.args.slot c.args.from c.args.datagram.now (first c)
taken c =
    sym (whole_is_taken c.args.profile.now c.args.map.now c.args.slot c.args.from c.args.datagram.now c.self.inside.sender c.self.inside.gatherer c.take.new.self
    c.self.inside.issued c.in-Some.client c.set_address.new.self c.in-Whole.number c.in-Whole.length _ _ c.set_address.ensures c.take.ensures.gathering
    (sym c.in-Whole.ensures.answer) c.in-Whole.ensures.message.1 c.read-read.ensures)

pub returns-clause-slot : goal.returns-clause-slot
returns-clause-slot c =
    ap (λ (slot : SlotState). Some slot) (c.run.ensures.slot c.self.inside.sender c.take.new.self ∙ ap (λ (t : SlotTaken). t.slot) (taken c))
    ∙ ap (slot_after_datagram c.args.profile.now c.args.map.now c.args.slot c.args.from c.args.datagram.now) (is_first c)

pub returns-clause-answer : goal.returns-clause-answer
returns-clause-answer c =
    c.run.ensures.answer c.self.inside.sender c.take.new.self ∙ ap (λ (t : SlotTaken). t.answer) (taken c)
    ∙ ap (answer_to c.args.profile.now c.args.map.now c.args.slot c.args.from c.args.datagram.now) (is_first c)

pub returns-clause-heard : goal.returns-clause-heard
returns-clause-heard c =
    c.run.ensures.heard c.self.inside.sender c.take.new.self ∙ ap (λ (t : SlotTaken). t.heard) (taken c)
    ∙ ap (heard_of c.args.profile.now c.args.map.now c.args.slot c.args.from c.args.datagram.now) (is_first c)
