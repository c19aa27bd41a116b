use Rattle.q3_schedules.proofs.EverySchedule.{shown_is_newest}
use Rattle.q3_schedules.proofs.laws.shown_is_newest.Goals as goal

pub returns : goal.returns
returns c = shown_is_newest c.bytes_follow_tags.ensures
