use Rattle.q3_window.proofs.Stands.{acknowledged_is_issued}
use Rattle.q3_window.proofs.laws.acknowledged_is_issued.Goals as goal

pub returns : goal.returns
returns c = acknowledged_is_issued
