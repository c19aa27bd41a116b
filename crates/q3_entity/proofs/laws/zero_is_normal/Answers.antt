use Rattle.q3_entity.proofs.WrittenSpelled.{zero_is_normal}
use Rattle.q3_entity.proofs.laws.zero_is_normal.Goals as goal

pub returns : goal.returns
returns c = zero_is_normal c.zeros_are_normal.ensures
