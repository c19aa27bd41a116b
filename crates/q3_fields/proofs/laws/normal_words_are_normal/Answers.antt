use Rattle.q3_fields.proofs.WordsSpelled.{words_are_normal}
use Rattle.q3_fields.proofs.laws.normal_words_are_normal.Goals as goal

pub returns : goal.returns
returns c = words_are_normal c.norm_is_normal.ensures
