use Rattle.q3_entity.proofs.SkippedSpelled.{skipped_was_spelled}
use Rattle.q3_entity.proofs.laws.skipped_is_spelled.Goals as goal

pub returns : goal.returns
returns c = skipped_was_spelled c.read_was_put.ensures c.words_read_are_spelled.ensures c.zero_is_normal.ensures
