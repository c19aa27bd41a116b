use Rattle.q3_schedules.proofs.Usual.{usual_never_skips}
use Rattle.q3_schedules.proofs.laws.usual_never_skips.Goals as goal

pub returns : goal.returns
returns c = usual_never_skips c.bytes_follow_tags.ensures c.layers.ensures c.applied_was_built.ensures
