use Rattle.q3_index.proofs.Sought.{seeking_is_playing}
use Rattle.q3_index.proofs.laws.seeking_is_playing.Goals as goal

pub returns : goal.returns
returns c = seeking_is_playing c.first_records_leave.ensures c.written_state_is_read.ensures c.apply_stays.ensures c.within_stays.ensures
