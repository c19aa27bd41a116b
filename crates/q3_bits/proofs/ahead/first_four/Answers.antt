use Rattle.std.proofs.Common.{arith}
use Rattle.std.proofs.lemmas.List.{get_or_past}
use Rattle.q3_bits.proofs.Windows.{first_four-bytes}
use Rattle.q3_bits.proofs.ahead.first_four.Goals as goal

pub returns-in_default : goal.returns-in_default
returns-in_default c =
    let xs = c.args.bytes.now in
    omega (arith, first_four-bytes xs (λ i. omega (arith, c.type_inv.bytes i)), get_or_past xs 0 0 (omega arith), get_or_past xs 1 0 (omega arith), get_or_past xs 2 0 (omega arith), get_or_past xs 3 0 (omega arith))

pub returns-in-len1 : goal.returns-in-len1
returns-in-len1 c =
    let xs = c.args.bytes.now in
    omega (arith, first_four-bytes xs (λ i. omega (arith, c.type_inv.bytes i)), get_or_past xs 1 0 (omega arith), get_or_past xs 2 0 (omega arith), get_or_past xs 3 0 (omega arith))

pub returns-in-len2 : goal.returns-in-len2
returns-in-len2 c =
    let xs = c.args.bytes.now in
    omega (arith, first_four-bytes xs (λ i. omega (arith, c.type_inv.bytes i)), get_or_past xs 2 0 (omega arith), get_or_past xs 3 0 (omega arith))

pub returns-in-len3 : goal.returns-in-len3
returns-in-len3 c =
    let xs = c.args.bytes.now in
    omega (arith, first_four-bytes xs (λ i. omega (arith, c.type_inv.bytes i)), get_or_past xs 3 0 (omega arith))

pub returns-in-len4-up : goal.returns-in-len4-up
returns-in-len4-up c = omega (arith, first_four-bytes c.args.bytes.now (λ i. omega (arith, c.type_inv.bytes i)))
