use Rattle.std.proofs.Common.{◌≤◌, ◌*◌, arith}
use Rattle.std.proofs.Math.Nat.{mul-le-mul}
use Rattle.q3_text.proofs.Weights.{weighted-next, weighted-end}
use Rattle.q3_text.proofs.key.weigh.Goals as goal

pub loop-byte-preserved : goal.loop-byte-preserved
loop-byte-preserved c =
    let next = weighted-next c.loop-byte.weight c.args.bytes.now c.loop-byte.byte-index c.loop-byte-test.true in
    let weighed = rw (← c.from.ensures) at next in
    let byte : c.from.result ≤ 255 = omega (arith, c.type_inv.bytes c.loop-byte.byte-index) in
    let weight : c.loop-byte.weight ≤ 150 = omega arith in
    let small : c.from.result * c.loop-byte.weight ≤ 255 * 150 = mul-le-mul byte weight in
    record { weight = omega arith; sum = omega arith; small = omega arith }

pub returns : goal.returns
returns c = omega (arith, weighted-end c.loop-byte.weight c.args.bytes.now c.loop-byte.byte-index c.loop-byte-test.false)
