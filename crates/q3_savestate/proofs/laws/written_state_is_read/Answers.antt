use Rattle.q3_savestate.proofs.Saving.{written_state_is_read}
use Rattle.q3_savestate.proofs.laws.written_state_is_read.Goals as goal

pub returns : goal.returns
returns c = written_state_is_read c.saved_is_applied.ensures c.written_is_read.ensures
