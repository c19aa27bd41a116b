use Rattle.q3_schedules.proofs.EverySchedule.{shown_was_built}
use Rattle.q3_schedules.proofs.laws.shown_was_built.Goals as goal

pub returns : goal.returns
returns c = shown_was_built c.bytes_follow_tags.ensures c.layers.ensures
