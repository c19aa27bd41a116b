use Rattle.q3_bits.proofs.Causes.{ends_cut_short}
use Rattle.q3_bits.proofs.laws.ends_cut_short.Goals as goal

pub returns : goal.returns
returns c = ends_cut_short
