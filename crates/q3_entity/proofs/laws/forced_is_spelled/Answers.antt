use Rattle.std.proofs.Common.{refl}
use Rattle.q3_entity.proofs.WrittenSpelled.{forced_is_spelled}
use Rattle.q3_entity.proofs.laws.forced_is_spelled.Goals as goal

pub returns : goal.returns
returns c = λ words table from to code is_table are normal others. forced_is_spelled c.words_are_spelled.ensures c.unchanged_is_normal.ensures words table to.number from to code is_table are normal others refl
