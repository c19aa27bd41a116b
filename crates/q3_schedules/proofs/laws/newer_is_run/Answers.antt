use Rattle.q3_schedules.proofs.RunIssued.{newer_is_run}
use Rattle.q3_schedules.proofs.laws.newer_is_run.Goals as goal

pub returns : goal.returns
returns c = newer_is_run c.bytes_follow_tags.ensures c.layers.ensures
