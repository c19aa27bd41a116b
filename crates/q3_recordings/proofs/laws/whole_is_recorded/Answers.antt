use Rattle.q3_recordings.proofs.WholeRecorded.{whole_is_recorded}
use Rattle.q3_recordings.proofs.laws.whole_is_recorded.Goals as goal

pub returns : goal.returns
returns c = whole_is_recorded c.applied_may_be_noted.ensures
