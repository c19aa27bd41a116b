use Rattle.q3_window.proofs.Runs.{executed_rise}
use Rattle.q3_window.proofs.laws.executed_rise.Goals as goal

pub returns : goal.returns
returns c = executed_rise
