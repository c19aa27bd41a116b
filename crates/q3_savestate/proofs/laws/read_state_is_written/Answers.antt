use Rattle.q3_savestate.proofs.Saving.{read_state_is_written}
use Rattle.q3_savestate.proofs.laws.read_state_is_written.Goals as goal

pub returns : goal.returns
returns c = read_state_is_written c.saved_is_applied.ensures c.read_is_written.ensures
