use Rattle.q3_window.proofs.Runs.{taken_are_executed, taken_without_gap}
use Rattle.q3_window.proofs.laws.taken_are_executed.Goals as goal

pub returns-clause-any : goal.returns-clause-any
returns-clause-any c = taken_are_executed

pub returns-clause-without_gap : goal.returns-clause-without_gap
returns-clause-without_gap c = taken_without_gap
