use Rattle.q3_schedules.proofs.EndedEarly.{replay_leaves_front}
use Rattle.q3_schedules.proofs.laws.replay_leaves_front.Goals as goal

pub returns : goal.returns
returns c = replay_leaves_front
