use Rattle.q3_entity.proofs.ListSpelled.{list_was_spelled}
use Rattle.q3_entity.proofs.laws.list_read_is_spelled.Goals as goal

pub returns : goal.returns
returns c = list_was_spelled c.read_was_put.ensures c.words_read_are_spelled.ensures c.zero_is_normal.ensures
