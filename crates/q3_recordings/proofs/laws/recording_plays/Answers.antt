use Rattle.q3_recordings.proofs.Recorded.{recording_plays}
use Rattle.q3_recordings.proofs.laws.recording_plays.Goals as goal

pub returns : goal.returns
returns c =
    recording_plays c.written_is_read.ensures c.read_is_spelled.ensures c.spelled_is_read.ensures c.message_holds_bits.ensures.holds c.message_holds_bits.ensures.bytes
    c.accepted_is_held.ensures c.apply_stays.ensures c.applied_is_context.ensures
