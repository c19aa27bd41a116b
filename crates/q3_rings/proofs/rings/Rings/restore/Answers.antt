use Rattle.q3_rings.proofs.PuttingBack.{nothing_restored}
use Rattle.q3_rings.proofs.rings.Rings.restore.Goals as goal

pub invariant_of-self : goal.invariant_of-self
invariant_of-self c =
    (nothing_restored c.self.inside c.restore.new.self c.args.self.now c.wipe.new.self c.args.placed c.self.invariant c.self.view_is c.wipe.ensures c.restore.ensures.placed c.restore.ensures.room c.requires).are

pub returns : goal.returns
returns c =
    (nothing_restored c.self.inside c.restore.new.self c.args.self.now c.wipe.new.self c.args.placed c.self.invariant c.self.view_is c.wipe.ensures c.restore.ensures.placed c.restore.ensures.room c.requires).is
