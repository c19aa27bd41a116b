use Rattle.q3_fields.proofs.Alike.{words_alike}
use Rattle.q3_fields.proofs.laws.words_end_alike.Goals as goal

pub returns : goal.returns
returns c = words_alike
