use Rattle.std.proofs.Common.{◌≡◌, ◌∙◌, List, None, refl, subst, sym, ap, rules}
use Rattle.q3_chan.specs.Datagrams.{client_form, server_form}
use Rattle.q3_chan.specs.Gathering.{new_gathering}
use Rattle.q3_chan.specs.Sending.{new_sending}
use Rattle.q3_entity.specs.declared.state.EntityState.{EntityState}
use Rattle.q3_frames.specs.Frames.{build_at}
use Rattle.q3_entity_ring.specs.Snapshot.{Snapshot}
use Rattle.q3_built.specs.Built.{Built}
use Rattle.q3_slot.specs.Slot.{SlotState}
use Rattle.q3_slot.specs.Emitting.{next_snapshot}
use Rattle.q3_built.specs.Writing.{HoldsBuilt}
use Rattle.q3_slot.specs.Slots.{slot_of, slot_with}
use Rattle.q3_slot.proofs.Begun.{is_begun}
use Rattle.q3_slot.proofs.emitting.write_next.Goals as goal

pub returns : goal.returns
returns c =
    let map = c.args.shared.now.map in
    let frames = c.args.shared.now.frames in
    let client = c.args.to.client.now in
    let issued = c.args.to.issued.now in
    let slot : SlotState = slot_of c.args.sender.now (new_gathering (client_form None)) issued client in
    let seen : List EntityState = (next_snapshot map (slot_with issued client)).entities in
    let snapshot : Snapshot = record { head = c.fill.new.head; entities = seen } in
    let head : c.fill.new.head ≡ (next_snapshot map slot).head = c.fill.ensures.head in
    let is_seen : c.seen.result.now ≡ seen = c.seen.ensures.seen (new_sending (server_form None) 0) (new_gathering (client_form None)) issued in
    let entities : seen ≡ (next_snapshot map slot).entities = sym is_seen ∙ c.seen.ensures.seen c.args.sender.now (new_gathering (client_form None)) issued in
    let snapshot_is : snapshot ≡ next_snapshot map slot = rw (head, entities) refl in
    let built : c.build.new.frames ≡ build_at frames c.args.to.slot snapshot =
    c.build.ensures.built ∙ ap (λ (e : List EntityState). build_at frames c.args.to.slot (record { head = c.fill.new.head; entities = e })) is_seen in
    record {
      written =
          subst (λ (built : Built). HoldsBuilt c.args.shared.now.profile built c.write_against.new.shared.buffer.value c.write_against.result)
          (is_begun c.args.shared.now.profile map frames c.build.new.frames c.args.to.slot c.args.sender.now (new_gathering (client_form None)) issued client
          c.fill.new.head.number snapshot map.baselines c.fill.ensures.number snapshot_is built refl)
          c.write_against.ensures.written;
      profile = search rules;
      map = search rules;
      frames = c.write_against.ensures.frames ∙ built ∙ ap (build_at frames c.args.to.slot) snapshot_is;
      slots = search rules;
      lists = search rules;
    }
