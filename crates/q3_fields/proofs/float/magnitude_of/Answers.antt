use Rattle.std.proofs.Common.{arith}
use Rattle.q3_fields.proofs.Magnitudes.{magnitude-shifted, magnitude-below}
use Rattle.q3_fields.proofs.float.magnitude_of.Goals as goal

pub overflow_add-result-2 : goal.overflow_add-result-2
overflow_add-result-2 c =
    let m = c.args.number in
    let is = magnitude-shifted m c.exponent_of-exponent.result c.requires.some c.requires.most c.exponent_of-exponent.ensures.exponent in
    let below = magnitude-below m c.requires.some c.requires.most in
    rw is (record { fits = omega (arith, below.1) })

pub returns : goal.returns
returns c =
    let m = c.args.number in
    let is = magnitude-shifted m c.exponent_of-exponent.result c.requires.some c.requires.most c.exponent_of-exponent.ensures.exponent in
    let below = magnitude-below m c.requires.some c.requires.most in
    record { magnitude = is; fits = rw is below.1 }
