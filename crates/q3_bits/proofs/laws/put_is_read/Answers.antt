use Rattle.q3_bits.proofs.CodeText.{field_again}
use Rattle.q3_bits.proofs.laws.put_is_read.Goals as goal

pub returns : goal.returns
returns c = λ words width value rest code fits. field_again words code width value rest fits
