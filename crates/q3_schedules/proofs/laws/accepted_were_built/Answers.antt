use Rattle.q3_schedules.proofs.EverySchedule.{accepted_were_built}
use Rattle.q3_schedules.proofs.laws.accepted_were_built.Goals as goal

pub returns : goal.returns
returns c = accepted_were_built c.bytes_follow_tags.ensures
