use Rattle.std.proofs.Common.{◌≡◌, ◌∙◌, Result, Ok, sym, ap}
use Rattle.q3_chan.specs.Gathering.{Gathering}
use Rattle.q3_chan.specs.Sending.{Sending}
use Rattle.q3_clmsg.specs.Values.{said_of}
use Rattle.q3_clmsg.specs.declared.error.ClientIllegible.{ClientIllegible}
use Rattle.q3_slot.specs.declared.taking.Origin.{Origin}
use Rattle.q3_slot.specs.Slots.{slot_of, came_of}
use Rattle.q3_slot.specs.Taking.{SlotTaken, ignores, leading_of, run_read}
use Rattle.q3_slot.proofs.joined.Joined.run.Goals as goal

-- a message of another map is ignored
ignored : (c : goal.After-ignore) (sending : Sending) (gathering : Gathering)
    → ignores c.args.map.now (slot_of sending gathering c.args.issued.now c.args.self.now) c.args.slot (leading_of c.in-Other.heads)
    ≡ run_read c.args.map.now (slot_of sending gathering c.args.issued.now c.args.self.now) c.args.slot c.args.number (came_of (said_of c.args.message.now) c.args.read)
ignored c sending gathering =
    ap (λ (read : Result Origin ClientIllegible). run_read c.args.map.now (slot_of sending gathering c.args.issued.now c.args.self.now) c.args.slot c.args.number (came_of (said_of c.args.message.now) read))
    (sym (c.in-Ok.is ∙ ap (λ (origin : Origin). Ok origin) c.in-Other.is))

pub returns-in-Other-clause-slot : goal.returns-in-Other-clause-slot
returns-in-Other-clause-slot c sending gathering = c.ignore.ensures.slot sending gathering ∙ ap (λ (t : SlotTaken). t.slot) (ignored c sending gathering)

pub returns-in-Other-clause-answer : goal.returns-in-Other-clause-answer
returns-in-Other-clause-answer c sending gathering = c.ignore.ensures.answer sending gathering ∙ ap (λ (t : SlotTaken). t.answer) (ignored c sending gathering)

pub returns-in-Other-clause-heard : goal.returns-in-Other-clause-heard
returns-in-Other-clause-heard c sending gathering = c.ignore.ensures.heard sending gathering ∙ ap (λ (t : SlotTaken). t.heard) (ignored c sending gathering)
