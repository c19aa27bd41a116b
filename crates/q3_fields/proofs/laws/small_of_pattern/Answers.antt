use Rattle.q3_fields.proofs.SmallFloats.{small_float-pattern}
use Rattle.q3_fields.proofs.laws.small_of_pattern.Goals as goal

pub returns : goal.returns
returns c = small_float-pattern
