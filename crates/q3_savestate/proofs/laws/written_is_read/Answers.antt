use Rattle.q3_savestate.proofs.Whole.{written_is_read}
use Rattle.q3_savestate.proofs.laws.written_is_read.Goals as goal

pub returns : goal.returns
returns c = written_is_read
