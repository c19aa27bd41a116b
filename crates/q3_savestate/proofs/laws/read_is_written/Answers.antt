use Rattle.q3_savestate.proofs.Whole.{read_is_written}
use Rattle.q3_savestate.proofs.laws.read_is_written.Goals as goal

pub returns : goal.returns
returns c = read_is_written c.baseline_is_added.ensures c.none_are_baselines.ensures c.sizes_add_up.ensures c.snapshots_stay.ensures
