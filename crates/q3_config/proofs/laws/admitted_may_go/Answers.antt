use Rattle.q3_config.proofs.Faults.{admitted}
use Rattle.q3_config.proofs.laws.admitted_may_go.Goals as goal

pub returns : goal.returns
returns c = admitted
