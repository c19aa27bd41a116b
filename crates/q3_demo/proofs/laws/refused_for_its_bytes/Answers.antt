use Rattle.q3_demo.proofs.Refusals.{step_refused}
use Rattle.q3_demo.proofs.laws.refused_for_its_bytes.Goals as goal

pub returns : goal.returns
returns c = step_refused
