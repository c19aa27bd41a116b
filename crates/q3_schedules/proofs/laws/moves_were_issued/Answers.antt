use Rattle.q3_schedules.proofs.RunIssued.{moves_were_issued}
use Rattle.q3_schedules.proofs.laws.moves_were_issued.Goals as goal

pub returns : goal.returns
returns c = moves_were_issued c.bytes_follow_tags.ensures
