use Rattle.q3_strings.proofs.Nops.{nops_are_nops}
use Rattle.q3_strings.proofs.laws.nops_are_nops.Goals as goal

pub returns : goal.returns
returns c = nops_are_nops
