use Rattle.q3_fields.proofs.SmallFloats.{small_float-some}
use Rattle.q3_fields.proofs.laws.pattern_of_small.Goals as goal

pub returns : goal.returns
returns c = small_float-some
