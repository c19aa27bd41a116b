use Rattle.q3_entity.proofs.WrittenSpelled.{normal_is_normal}
use Rattle.q3_entity.proofs.laws.normal_is_normal.Goals as goal

pub returns : goal.returns
returns c = normal_is_normal c.normal_words_are_normal.ensures
