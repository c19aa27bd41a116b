use Rattle.q3_schedules.proofs.EverySchedule.{bases_were_accepted}
use Rattle.q3_schedules.proofs.laws.bases_were_accepted.Goals as goal

pub returns : goal.returns
returns c = bases_were_accepted c.bytes_follow_tags.ensures
