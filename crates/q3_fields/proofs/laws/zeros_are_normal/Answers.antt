use Rattle.q3_fields.proofs.NormalWords.{zeros_are_normal}
use Rattle.q3_fields.proofs.laws.zeros_are_normal.Goals as goal

pub returns : goal.returns
returns c = zeros_are_normal
