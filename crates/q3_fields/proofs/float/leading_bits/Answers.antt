use Rattle.std.proofs.Common.{◌≡◌, min, sym, ap, ◌∙◌, arith, inl, inr}
use Rattle.q3_fields.proofs.Magnitudes.{leading, magnitude-exponent, magnitude-leading}
use Rattle.q3_fields.proofs.float.leading_bits.Goals as goal

pub returns-then-exponent-lt127-clause-only : goal.returns-then-exponent-lt127-clause-only
returns-then-exponent-lt127-clause-only c =
    λ m some most is.
    let at = magnitude-exponent m c.args.word some most is in
    elim c.then-exponent-lt127.either [
      | inl under ↦ absurd (omega (arith, at.0))
      | inr over ↦ absurd (omega (arith, at.1, over.1))
    ]

pub returns-clause-only : goal.returns-clause-only
returns-clause-only c =
    λ m some most is.
    let bits : leading c.args.word ≡ m = magnitude-leading m c.args.word some most is in
    let within : min m 4096 ≡ m = omega arith in
    sym (c.min.ensures ∙ ap (λ n. min n 4096) bits ∙ within)
