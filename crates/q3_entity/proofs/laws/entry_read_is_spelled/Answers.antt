use Rattle.q3_entity.proofs.EntrySpelled.{entry_was_spelled}
use Rattle.q3_entity.proofs.laws.entry_read_is_spelled.Goals as goal

pub returns : goal.returns
returns c = entry_was_spelled c.read_was_put.ensures c.words_read_are_spelled.ensures
