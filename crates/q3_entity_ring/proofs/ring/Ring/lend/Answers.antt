use Rattle.q3_entity_ring.proofs.Rounds.{lent_within, lent_past}
use Rattle.q3_entity_ring.proofs.ring.Ring.lend.Goals as goal

pub returns-then-count-after-clause-entities : goal.returns-then-count-after-clause-entities
returns-then-count-after-clause-entities c =
    lent_within c.self.inside c.args.self.now c.args.first c.args.count c.deref.result.now c.self.invariant c.self.view_is
    c.requires.placed c.requires.there c.if-count-after.true c.deref.ensures.value

pub returns-clause-entities : goal.returns-clause-entities
returns-clause-entities c =
    lent_past c.self.inside c.args.self.now c.args.first c.args.count c.deref-2.result.now c.deref-3.result.now c.self.invariant c.self.view_is
    c.requires.placed c.requires.there c.if-count-after.false c.deref-2.ensures.value c.deref-3.ensures.value
