use Rattle.q3_schedules.proofs.Pends.{nothing_pends}
use Rattle.q3_schedules.proofs.laws.nothing_pends.Goals as goal

pub returns : goal.returns
returns c = nothing_pends c.bytes_follow_tags.ensures c.layers.ensures
