use Rattle.q3_index.proofs.Sought.{seeking_goes_on}
use Rattle.q3_index.proofs.laws.seeking_goes_on.Goals as goal

pub returns : goal.returns
returns c = seeking_goes_on c.first_records_leave.ensures c.written_state_is_read.ensures c.apply_stays.ensures c.within_stays.ensures
