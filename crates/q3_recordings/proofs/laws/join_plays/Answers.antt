use Rattle.q3_recordings.proofs.Joined.{join_plays}
use Rattle.q3_recordings.proofs.laws.join_plays.Goals as goal

pub returns : goal.returns
returns c =
    join_plays c.recording_plays.ensures c.read_is_spelled.ensures c.apply_stays.ensures c.applied_is_context.ensures c.takes_messages.ensures
