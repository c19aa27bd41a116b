use Rattle.q3_schedules.proofs.Following.{strings_follow}
use Rattle.q3_schedules.proofs.laws.strings_follow.Goals as goal

pub returns : goal.returns
returns c = strings_follow c.bytes_follow_tags.ensures c.layers.ensures
