use Rattle.q3_schedules.proofs.Unknown.{unknown_was_not_made}
use Rattle.q3_schedules.proofs.laws.unknown_was_not_made.Goals as goal

pub returns : goal.returns
returns c = unknown_was_not_made c.bytes_follow_tags.ensures c.layers.ensures
