use Rattle.q3_bits.proofs.Gathered.{has-left}
use Rattle.q3_bits.proofs.ahead.Ahead.has.Goals as goal

pub returns-clause-left : goal.returns-clause-left
returns-clause-left c = has-left c.args.count c.args.self.count c.args.self.bits c.args.self.rest.now c.requires.few c.requires.full
