use Rattle.q3_schedules.proofs.Prefixes.{executed_goes_on}
use Rattle.q3_schedules.proofs.laws.executed_goes_on.Goals as goal

pub returns : goal.returns
returns c = executed_goes_on c.bytes_follow_tags.ensures c.layers.ensures
