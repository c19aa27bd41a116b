use Rattle.q3_bits.proofs.Gathered.{window-full}
use Rattle.q3_bits.proofs.ahead.Ahead.window.Goals as goal

pub returns-clause-bits : goal.returns-clause-bits
returns-clause-bits c = window-full c.args.self.count c.args.self.bits c.args.self.rest.now c.args.self.fits c.requires
