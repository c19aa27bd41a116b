use Rattle.std.proofs.Common.{arith}
use Rattle.q3_bits.proofs.Windows.{first_eight-bytes}
use Rattle.q3_bits.proofs.ahead.first_eight.Goals as goal

pub returns-in-len8-up : goal.returns-in-len8-up
returns-in-len8-up c = (omega arith, omega (arith, first_eight-bytes c.args.bytes.now (λ i. omega (arith, c.type_inv.bytes i))))
