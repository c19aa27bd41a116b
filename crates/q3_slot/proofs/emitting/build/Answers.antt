use Rattle.std.proofs.Common.{◌≡◌, subst, sym, rules}
use Rattle.q3_frames.specs.Frames.{build_at}
use Rattle.q3_entity_ring.specs.Snapshot.{Snapshot}
use Rattle.q3_slot.specs.Slots.{HoldLists}
use Rattle.q3_slot.proofs.Listed.{build_lists}
use Rattle.q3_slot.proofs.emitting.build.Goals as goal

pub returns-clause-lists : goal.returns-clause-lists
returns-clause-lists c = λ table listed lists.
    let snapshot : Snapshot = record { head = c.args.head.now; entities = c.args.entities.now } in
    let built : c.build.new.self ≡ build_at c.args.frames.now c.args.slot snapshot = search rules in
    subst (HoldLists table) (sym built) (build_lists c.held_was_built.ensures table c.args.frames.now c.args.slot snapshot listed lists)
