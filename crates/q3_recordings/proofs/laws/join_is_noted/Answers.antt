use Rattle.q3_recordings.proofs.Joined.{join_is_noted}
use Rattle.q3_recordings.proofs.laws.join_is_noted.Goals as goal

pub returns : goal.returns
returns c = join_is_noted c.read_is_spelled.ensures c.apply_stays.ensures c.applied_is_context.ensures c.takes_messages.ensures
