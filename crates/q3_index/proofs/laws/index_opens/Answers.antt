use Rattle.q3_index.proofs.Sought.{index_opens}
use Rattle.q3_index.proofs.laws.index_opens.Goals as goal

pub returns : goal.returns
returns c = index_opens c.apply_stays.ensures c.within_stays.ensures
