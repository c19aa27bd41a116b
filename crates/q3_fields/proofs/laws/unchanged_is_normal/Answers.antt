use Rattle.q3_fields.proofs.WordsSpelled.{unchanged}
use Rattle.q3_fields.proofs.laws.unchanged_is_normal.Goals as goal

pub returns : goal.returns
returns c = unchanged
