use Rattle.q3_bits.proofs.Causes.{plain_ends}
use Rattle.q3_bits.proofs.laws.plain_bits_end.Goals as goal

pub returns : goal.returns
returns c = plain_ends
