use Rattle.q3_entity.proofs.Listed.{list_rises}
use Rattle.q3_entity.proofs.laws.list_rises.Goals as goal

pub returns : goal.returns
returns c = list_rises
