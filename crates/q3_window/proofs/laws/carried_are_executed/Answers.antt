use Rattle.q3_window.proofs.Runs.{carried_are_executed}
use Rattle.q3_window.proofs.laws.carried_are_executed.Goals as goal

pub returns : goal.returns
returns c = carried_are_executed
