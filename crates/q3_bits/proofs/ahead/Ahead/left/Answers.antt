use Rattle.std.proofs.Common.{◌∙◌}
use Rattle.q3_bits.proofs.Gathered.{left-of}
use Rattle.q3_bits.proofs.ahead.Ahead.left.Goals as goal

pub returns-clause-left : goal.returns-clause-left
returns-clause-left c = c.min.ensures ∙ left-of c.args.self.count c.args.self.bits c.args.self.rest.now c.requires
