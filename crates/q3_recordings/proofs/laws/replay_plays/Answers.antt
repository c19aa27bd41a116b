use Rattle.q3_recordings.proofs.Replayed.{replay_plays}
use Rattle.q3_recordings.proofs.laws.replay_plays.Goals as goal

pub returns : goal.returns
returns c =
    replay_plays c.slots_are_kept.ensures c.recording_plays.ensures c.read_is_spelled.ensures c.apply_stays.ensures c.applied_is_context.ensures c.takes_messages.ensures
