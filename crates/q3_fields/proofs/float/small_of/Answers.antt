use Rattle.std.proofs.Common.{ℤ, w32, SFits, sym, ap, ◌∙◌, rules}
use Rattle.std.proofs.lemmas.Int.{to_z-of_z}
use Rattle.q3_fields.specs.Floats.{small_float}
use Rattle.q3_fields.proofs.SmallFloats.{small_float-negative_zero, small_float-pattern, small_float-only}
use Rattle.q3_fields.proofs.float.small_of.Goals as goal

pub returns-then-word : goal.returns-then-word
returns-then-word c = sym (ap small_float c.if-word.true ∙ small_float-negative_zero)

pub returns-then-pattern_of-word : goal.returns-then-pattern_of-word
returns-then-pattern_of-word c =
    let k : ℤ = c.nearest-k.result in
    let fits : SFits w32 k = search rules in
    let is = simp to_z-of_z at c.pattern_of.ensures in
    sym (small_float-only c.args.word k c.if-word.false c.nearest-k.ensures.only (λ e. c.if-pattern_of-word.true (is ∙ e)))

pub returns : goal.returns
returns c =
    let k : ℤ = c.nearest-k.result in
    let fits : SFits w32 k = search rules in
    let is = simp to_z-of_z at c.pattern_of.ensures in
    simp to_z-of_z (sym (ap small_float (sym c.if-pattern_of-word.false ∙ is) ∙ small_float-pattern k c.nearest-k.ensures.small))
