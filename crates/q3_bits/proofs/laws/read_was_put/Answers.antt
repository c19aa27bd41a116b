use Rattle.q3_bits.proofs.CodeText.{field_at_some}
use Rattle.q3_bits.proofs.laws.read_was_put.Goals as goal

pub returns : goal.returns
returns c = λ words width value bits rest code e. field_at_some words code width bits (value, rest) e
