use Rattle.q3_rings.proofs.PuttingBack.{placed_back}
use Rattle.q3_rings.proofs.rings.Rings.place_back.Goals as goal

pub invariant_of-self : goal.invariant_of-self
invariant_of-self c =
    rw c.put.ensures (placed_back c.put_is_next.ensures c.put_leaves_others.ensures c.self.inside c.in-Some.back c.args.self.now c.args.entity.now c.self.invariant c.in-Some.is c.self.view_is c.requires).are

pub returns-in-Some : goal.returns-in-Some
returns-in-Some c =
    rw c.put.ensures (placed_back c.put_is_next.ensures c.put_leaves_others.ensures c.self.inside c.in-Some.back c.args.self.now c.args.entity.now c.self.invariant c.in-Some.is c.self.view_is c.requires).is
