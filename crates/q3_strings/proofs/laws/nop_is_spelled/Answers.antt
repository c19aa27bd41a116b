use Rattle.q3_strings.proofs.Nops.{nop_is_spelled}
use Rattle.q3_strings.proofs.laws.nop_is_spelled.Goals as goal

pub returns : goal.returns
returns c = nop_is_spelled
