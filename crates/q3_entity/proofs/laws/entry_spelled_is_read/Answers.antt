use Rattle.q3_entity.proofs.EntrySpelled.{entry_is_read}
use Rattle.q3_entity.proofs.laws.entry_spelled_is_read.Goals as goal

pub returns : goal.returns
returns c = entry_is_read c.put_is_read.ensures c.words_spelled_are_read.ensures
