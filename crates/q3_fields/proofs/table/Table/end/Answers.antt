use Rattle.std.proofs.Common.{◌≤◌, ◌^◌, arith}
use Rattle.std.proofs.Math.Pow.{pow_mono}
use Rattle.std.proofs.lemmas.Nat.{one_shl}
use Rattle.q3_fields.specs.Kinds.{least_number_bits, most_number_bits}
use Rattle.q3_fields.proofs.table.Table.end.Goals as goal

pub returns-clause-most : goal.returns-clause-most
returns-clause-most c =
    let bits = c.self.inside.number_bits in
    let within = c.self.invariant.numbers in
    let most : 2 ^ bits ≤ 2 ^ most_number_bits = pow_mono within.1 in
    omega (arith, most, one_shl bits 16 (omega (arith, within.1)))

pub returns-clause-least : goal.returns-clause-least
returns-clause-least c =
    let bits = c.self.inside.number_bits in
    let within = c.self.invariant.numbers in
    let least : 2 ^ least_number_bits ≤ 2 ^ bits = pow_mono within.0 in
    let most : 2 ^ bits ≤ 2 ^ most_number_bits = pow_mono within.1 in
    omega (arith, least, most, one_shl bits 16 (omega (arith, within.1)))
