use Rattle.q3_entity_ring.proofs.Rounds.{put_there}
use Rattle.q3_entity_ring.proofs.ring.Ring.put.Goals as goal

pub returns : goal.returns
returns c = put_there c.self.inside c.args.self.now c.args.number c.args.entity.now c.self.invariant c.self.view_is c.requires.placed c.requires.there
