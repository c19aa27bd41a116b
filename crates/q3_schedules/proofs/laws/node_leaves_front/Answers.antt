use Rattle.q3_schedules.proofs.EndedEarly.{node_leaves_front}
use Rattle.q3_schedules.proofs.laws.node_leaves_front.Goals as goal

pub returns : goal.returns
returns c = node_leaves_front
