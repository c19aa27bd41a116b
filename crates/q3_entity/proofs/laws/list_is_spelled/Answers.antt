use Rattle.q3_entity.proofs.ListWritten.{list_is_spelled}
use Rattle.q3_entity.proofs.laws.list_is_spelled.Goals as goal

pub returns : goal.returns
returns c = list_is_spelled c.zero_is_normal.ensures c.words_are_spelled.ensures c.unchanged_is_normal.ensures
