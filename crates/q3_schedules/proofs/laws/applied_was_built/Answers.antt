use Rattle.q3_schedules.proofs.EverySchedule.{applied_was_built}
use Rattle.q3_schedules.proofs.laws.applied_was_built.Goals as goal

pub returns : goal.returns
returns c = applied_was_built c.bytes_follow_tags.ensures c.layers.ensures
