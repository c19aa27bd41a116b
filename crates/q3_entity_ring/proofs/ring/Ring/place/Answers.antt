use Rattle.std.proofs.Common.{◌≡◌, ◌+◌, ◌%◌, length, subst}
use Rattle.q3_entity.specs.Entities.{zero_entity}
use Rattle.q3_entity_ring.specs.Ring.{RingState, with_entities}
use Rattle.q3_entity_ring.specs.Turned.{turned, filled}
use Rattle.q3_entity_ring.proofs.Rounds.{placed_round}
use Rattle.q3_entity_ring.proofs.ring.Ring.place.Goals as goal

pub returns : goal.returns
returns c =
    let room = c.self.inside.room in
    let placed = c.self.inside.placed in
    let es = c.args.entities.now in
    let old = filled (zero_entity 0) room c.self.inside.cells.items in
    let new = filled (zero_entity 0) room c.put_round.new.cells.items in
    subst (λ (ring : RingState). record { placed = placed + length es; recent = turned ((placed + length es) % room) new } ≡ with_entities ring es) c.self.view_is
    (placed_round placed room old new es c.put_round.ensures.cells)
