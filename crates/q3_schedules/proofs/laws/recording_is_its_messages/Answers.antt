use Rattle.q3_schedules.proofs.Recorded.{recording_is_its_messages}
use Rattle.q3_schedules.proofs.laws.recording_is_its_messages.Goals as goal

pub returns : goal.returns
returns c = recording_is_its_messages
