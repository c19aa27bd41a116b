use Rattle.q3_schedules.proofs.Entering.{entering_is_not_run}
use Rattle.q3_schedules.proofs.laws.entering_is_not_run.Goals as goal

pub returns : goal.returns
returns c = entering_is_not_run c.bytes_follow_tags.ensures c.layers.ensures
