use Rattle.q3_recordings.proofs.OwnReplays.{own_replay_plays}
use Rattle.q3_recordings.proofs.laws.own_replay_plays.Goals as goal

pub returns : goal.returns
returns c = own_replay_plays c.own_replay_tells.ensures c.applied_was_served.ensures c.replay_is_noted.ensures c.replay_plays.ensures
