use Rattle.q3_demo.proofs.Stepping.{first_leave}
use Rattle.q3_demo.proofs.laws.first_records_leave.Goals as goal

pub returns : goal.returns
returns c = first_leave
