use Rattle.q3_entity.proofs.ListSkipped.{list_is_skipped}
use Rattle.q3_entity.proofs.laws.read_is_skipped.Goals as goal

pub returns : goal.returns
returns c = list_is_skipped c.words_end_alike.ensures c.zero_is_normal.ensures
