use Rattle.q3_entity.proofs.ListRead.{list_is_read}
use Rattle.q3_entity.proofs.laws.list_spelled_is_read.Goals as goal

pub returns : goal.returns
returns c = list_is_read c.put_is_read.ensures c.words_spelled_are_read.ensures c.zero_is_normal.ensures
