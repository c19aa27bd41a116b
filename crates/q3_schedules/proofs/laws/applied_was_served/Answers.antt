use Rattle.q3_schedules.proofs.Served.{applied_was_served}
use Rattle.q3_schedules.proofs.laws.applied_was_served.Goals as goal

pub returns : goal.returns
returns c = applied_was_served c.bytes_follow_tags.ensures c.applied_was_built.ensures
