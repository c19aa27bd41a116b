use Rattle.q3_recordings.proofs.Replayed.{replay_is_noted}
use Rattle.q3_recordings.proofs.laws.replay_is_noted.Goals as goal

pub returns : goal.returns
returns c = replay_is_noted c.slots_are_kept.ensures c.read_is_spelled.ensures c.apply_stays.ensures c.applied_is_context.ensures c.takes_messages.ensures
