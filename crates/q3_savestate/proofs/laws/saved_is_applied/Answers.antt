use Rattle.q3_savestate.proofs.Saving.{state_is_saved, saved_is_state}
use Rattle.q3_savestate.proofs.laws.saved_is_applied.Goals as goal

pub returns : goal.returns
returns c = record { saved = state_is_saved; applied = saved_is_state }
