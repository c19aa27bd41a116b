use Rattle.q3_bits.proofs.CodeText.{plain_is_code}
use Rattle.q3_bits.proofs.laws.plain_is_a_code.Goals as goal

pub returns : goal.returns
returns c = plain_is_code
