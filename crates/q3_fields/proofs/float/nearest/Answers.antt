use Rattle.std.proofs.Common.{arith}
use Rattle.std.proofs.lemmas.Int.{ints, clamps}
use Rattle.q3_fields.proofs.SmallFloats.{nearest-negative, nearest-positive}
use Rattle.q3_fields.proofs.float.nearest.Goals as goal

pub returns-then-word-clause-only : goal.returns-then-word-clause-only
returns-then-word-clause-only c =
    λ k h e.
    let number = c.leading_bits-number.result in
    let is = nearest-negative c.args.word number c.if-word.true c.leading_bits-number.ensures.only k h e in
    omega (arith, ints, is, c.leading_bits-number.ensures.most)

pub returns-clause-only : goal.returns-clause-only
returns-clause-only c =
    λ k h e.
    let number = c.leading_bits-number.result in
    let is = nearest-positive c.args.word number c.if-word.false c.leading_bits-number.ensures.zero c.leading_bits-number.ensures.only k h e in
    omega (arith, ints, clamps, is, h.most, c.leading_bits-number.ensures.most, c.min.ensures.value)
