use Rattle.std.proofs.Common.{ℤ, w32, SFits, sym, ◌∙◌, rules}
use Rattle.std.proofs.lemmas.Int.{to_z-of_z}
use Rattle.q3_fields.proofs.SmallFloats.{small_float-within}
use Rattle.q3_fields.proofs.writing.carried_in_13.Goals as goal

pub biased-requires : goal.biased-requires
biased-requires c =
    let k : ℤ = c.in-Some.k in
    let fits : SFits w32 k = search rules in
    rw to_z-of_z (small_float-within c.args.word k (sym c.small_of.ensures ∙ c.in-Some.is))
