use Rattle.std.proofs.Common.{◌≡◌, ◌∙◌, Option, Some, None, false, sym, ap, subst, rules, option_map}
use Rattle.std.specs.Prelude.{◌||◌, ◌+◌, nat_le, nat_lt}
use Rattle.q3_chan.specs.Datagrams.{sequence_end}
use Rattle.q3_chan.specs.Sending.{Piece, HandsOut}
use Rattle.q3_built.specs.Built.{is_unclear}
use Rattle.q3_slot.specs.Slot.{SlotState}
use Rattle.q3_slot.specs.Emitting.{SlotEmission, most_placed}
use Rattle.q3_slot.specs.Slots.{emission_of, snapshot_emission, slot_of, slot_after, map_after, frames_after, answer_of, piece_of}
use Rattle.q3_slot.proofs.Begun.{emits_game, emits_snapshot}
use Rattle.q3_slot.proofs.slot.Slot.emit.Goals as goal

pub returns : goal.returns
returns c =
    let profile = c.args.shared.now.profile in
    let map = c.args.shared.now.map in
    let frames = c.args.shared.now.frames in
    let slot = c.args.slot in
    let gatherer = c.self.inside.gatherer in
    let first : SlotState = slot_of c.self.inside.sender gatherer c.self.inside.issued c.in-Some.client in
    let is_first : Some first ≡ c.args.self.now = search rules in
    let idle : c.self.inside.sender.under_way ≡ None = search rules in
    let open_ : (nat_le sequence_end (c.self.inside.sender.number + 1) || nat_lt most_placed frames.placed) ≡ false = search rules in
    let clear : is_unclear profile c.in-Some.client.executed.executed ≡ false = search rules in
    let emits : snapshot_emission profile map frames slot first ≡ emission_of profile map frames slot first =
    sym (emits_snapshot profile map frames slot first idle open_ clear c.if-client.false) in
    record {
      slot = ap (option_map (slot_of c.begin_snapshot.new.sender gatherer c.self.inside.issued)) c.in-Some.is
          ∙ ap (λ (slot : SlotState). Some slot) (c.begin_snapshot.ensures.slot gatherer ∙ ap (λ (e : SlotEmission). e.slot) emits)
          ∙ ap (slot_after profile map frames slot) is_first;
      profile = c.begin_snapshot.ensures.profile;
      map = c.begin_snapshot.ensures.map gatherer ∙ ap (λ (e : SlotEmission). e.map) emits ∙ ap (map_after profile map frames slot) is_first;
      frames = c.begin_snapshot.ensures.frames gatherer ∙ ap (λ (e : SlotEmission). e.frames) emits ∙ ap (frames_after profile map frames slot) is_first;
      slots = search rules;
      lists = search rules;
      answer = c.begin_snapshot.ensures.answer gatherer ∙ ap (λ (e : SlotEmission). e.answer) emits ∙ ap (answer_of profile map frames slot) is_first;
      piece = subst (λ (piece : Option Piece). HandsOut piece c.begin_snapshot.new.out.items)
          (ap (λ (e : SlotEmission). e.piece) emits ∙ ap (piece_of profile map frames slot) is_first) (c.begin_snapshot.ensures.piece gatherer);
      stands = c.slot_stands.ensures;
    }

-- a gamestate that is owed
pub returns-then-client : goal.returns-then-client
returns-then-client c =
    let profile = c.args.shared.now.profile in
    let map = c.args.shared.now.map in
    let frames = c.args.shared.now.frames in
    let slot = c.args.slot in
    let first : SlotState = slot_of c.self.inside.sender c.self.inside.gatherer c.self.inside.issued c.in-Some.client in
    let is_first : Some first ≡ c.args.self.now = search rules in
    let idle : c.self.inside.sender.under_way ≡ None = search rules in
    let open_ : (nat_le sequence_end (c.self.inside.sender.number + 1) || nat_lt most_placed frames.placed) ≡ false = search rules in
    let clear : is_unclear profile c.in-Some.client.executed.executed ≡ false = search rules in
    let emits = sym (emits_game profile map frames slot first idle open_ clear c.if-client.true) in
    let was = sym is_first in
    record {
      slot = c.begin_owed.ensures.slot first was ∙ ap (λ (e : SlotEmission). Some e.slot) emits ∙ ap (slot_after profile map frames slot) is_first;
      profile = c.begin_owed.ensures.profile;
      map = c.begin_owed.ensures.map first was ∙ ap (λ (e : SlotEmission). e.map) emits ∙ ap (map_after profile map frames slot) is_first;
      frames = search rules;
      slots = search rules;
      lists = search rules;
      answer = c.begin_owed.ensures.answer first was ∙ ap (λ (e : SlotEmission). e.answer) emits ∙ ap (answer_of profile map frames slot) is_first;
      piece = subst (λ (piece : Option Piece). HandsOut piece c.begin_owed.new.out.items)
          (ap (λ (e : SlotEmission). e.piece) emits ∙ ap (piece_of profile map frames slot) is_first) (c.begin_owed.ensures.piece first was);
      stands = c.slot_stands.ensures;
    }
