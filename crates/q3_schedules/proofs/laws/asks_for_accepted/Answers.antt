use Rattle.q3_schedules.proofs.EverySchedule.{asks_for_accepted}
use Rattle.q3_schedules.proofs.laws.asks_for_accepted.Goals as goal

pub returns : goal.returns
returns c = asks_for_accepted c.bytes_follow_tags.ensures
