use Rattle.q3_schedules.proofs.Keys.{keys_agree}
use Rattle.q3_schedules.proofs.laws.keys_agree.Goals as goal

pub returns : goal.returns
returns c = keys_agree c.bytes_follow_tags.ensures c.layers.ensures
