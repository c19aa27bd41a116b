use Rattle.q3_entity.proofs.SkippedSpelled.{spelled_is_skipped}
use Rattle.q3_entity.proofs.laws.spelled_is_skipped.Goals as goal

pub returns : goal.returns
returns c = spelled_is_skipped c.put_is_read.ensures c.words_spelled_are_read.ensures c.zero_is_normal.ensures
