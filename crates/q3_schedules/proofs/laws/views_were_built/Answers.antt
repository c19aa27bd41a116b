use Rattle.q3_schedules.proofs.EverySchedule.{views_were_built}
use Rattle.q3_schedules.proofs.laws.views_were_built.Goals as goal

pub returns : goal.returns
returns c = views_were_built c.bytes_follow_tags.ensures c.layers.ensures
