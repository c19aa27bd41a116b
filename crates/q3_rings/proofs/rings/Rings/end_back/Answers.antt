use Rattle.std.proofs.Common.{sym}
use Rattle.q3_rings.proofs.PuttingBack.{ended_back}
use Rattle.q3_rings.proofs.rings.Rings.end_back.Goals as goal

pub invariant_of-self : goal.invariant_of-self
invariant_of-self c =
    rw (c.keep.ensures, c.take.ensures.after) (ended_back c.self.inside c.in-Some.back c.args.self.now c.self.invariant (sym c.in-Some.ensures.value) c.self.view_is c.requires).are

pub returns-in-Some : goal.returns-in-Some
returns-in-Some c =
    rw (c.keep.ensures, c.take.ensures.after) (ended_back c.self.inside c.in-Some.back c.args.self.now c.self.invariant (sym c.in-Some.ensures.value) c.self.view_is c.requires).is
