use Rattle.std.proofs.Common.{None, List, subst, rules}
use Rattle.q3_chan.specs.Datagrams.{client_form, server_form}
use Rattle.q3_chan.specs.Gathering.{new_gathering}
use Rattle.q3_chan.specs.Sending.{new_sending}
use Rattle.q3_entity.specs.declared.state.EntityState.{EntityState}
use Rattle.q3_frames.specs.Frames.{base_of}
use Rattle.q3_built.specs.Built.{Built, built_of}
use Rattle.q3_built.specs.Writing.{HoldsBuilt}
use Rattle.q3_slot.specs.Slot.{SlotState, asked}
use Rattle.q3_slot.specs.Emitting.{telling_under}
use Rattle.q3_slot.specs.Slots.{slot_with}
use Rattle.q3_slot.proofs.emitting.write_against.Goals as goal

pub returns-clause-written : goal.returns-clause-written
returns-clause-written c =
    let shared = c.args.shared.now in
    let slot : SlotState = slot_with c.args.to.issued.now c.args.to.client.now in
    let number = shared.head.number in
    let builds : List EntityState → Built = λ entities. built_of (telling_under shared.profile slot number) shared.map.baselines
    (base_of shared.frames c.args.to.slot number (asked slot)) (record { head = shared.head; entities = entities }) in
    let holds : HoldsBuilt shared.profile (builds c.seen.result.now) c.write_snapshot.new.buffer c.write_snapshot.result = search rules in
    subst (λ (entities : List EntityState). HoldsBuilt shared.profile (builds entities) c.write_snapshot.new.buffer c.write_snapshot.result)
    (c.seen.ensures.seen (new_sending (server_form None) 0) (new_gathering (client_form None)) c.args.to.issued.now) holds
