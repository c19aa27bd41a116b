use Rattle.q3_entity.proofs.WrittenSpelled.{entity_is_read}
use Rattle.q3_entity.proofs.laws.entity_written_is_read.Goals as goal

pub returns : goal.returns
returns c = entity_is_read c.put_is_read.ensures c.words_are_spelled.ensures c.unchanged_is_normal.ensures c.words_spelled_are_read.ensures
