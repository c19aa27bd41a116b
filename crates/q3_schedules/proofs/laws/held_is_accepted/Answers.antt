use Rattle.q3_schedules.proofs.EverySchedule.{held_is_accepted}
use Rattle.q3_schedules.proofs.laws.held_is_accepted.Goals as goal

pub returns : goal.returns
returns c = held_is_accepted c.bytes_follow_tags.ensures c.layers.ensures
