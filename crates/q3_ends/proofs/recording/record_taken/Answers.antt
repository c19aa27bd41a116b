use Rattle.std.proofs.Common.{arith, subst, sym, ◌∙◌}
use Rattle.q3_client.specs.Client.{take_at}
use Rattle.q3_clstate.specs.Standing.{IsApplied}
use Rattle.q3_ends.proofs.Taking.{may_note}
use Rattle.q3_ends.proofs.recording.record_taken.Goals as goal

pub note-requires-clause-number : goal.note-requires-clause-number
note-requires-clause-number g c =
    let was = c.takes_messages.ensures.applies c.args.client.now c.args.bytes.now c.in-Applied.applied (sym c.take-took.ensures.answer ∙ c.in-Applied.is) in
    omega (arith, was.newer)

pub note-requires-clause-applied : goal.note-requires-clause-applied
note-requires-clause-applied g c =
    let taken = take_at c.args.client.now c.args.bytes.now in
    let was = c.takes_messages.ensures.applies c.args.client.now c.args.bytes.now c.in-Applied.applied (sym c.take-took.ensures.answer ∙ c.in-Applied.is) in
    rw (c.state-2.ensures, c.message.ensures.message, c.take-took.ensures.client)
    (may_note c.applied_may_be_noted.ensures c.prepare.new.recorder.stage c.args.client.now taken c.in-Applied.applied (subst IsApplied c.state.ensures c.stands.ensures) was)
