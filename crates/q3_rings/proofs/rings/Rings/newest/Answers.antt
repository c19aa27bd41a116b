use Rattle.q3_rings.proofs.Numbered.{none_is_left}
use Rattle.q3_rings.proofs.rings.Rings.newest.Goals as goal

pub returns-clause-gone : goal.returns-clause-gone
returns-clause-gone c = none_is_left c.self.inside c.args.self.now c.self.view_is
