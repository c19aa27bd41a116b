use Rattle.std.proofs.Common.{ℕ, List, [], ◌∷◌, ◌++◌, FitsSigned, rules, arith, sym, ap, ◌∙◌}
use Rattle.std.specs.Int.{w8, cast_unsigned}
use Rattle.std.proofs.lemmas.Int.{to_z-of_z}
use Rattle.q3_clmsg.proofs.Fields.{three_values}
use Rattle.q3_clmsg.proofs.moves.fields.Goals as goal

pub returns-clause-is : goal.returns-clause-is
returns-clause-is c =
    let one = c.args.one.now in
    let fits : FitsSigned w8 one.forward = search rules in
    let fits' : FitsSigned w8 one.right = search rules in
    let fits'' : FitsSigned w8 one.up = search rules in
    let forward = c.pattern.ensures.is ∙ ap (cast_unsigned w8) (to_z-of_z w8 one.forward fits) in
    let right = c.pattern-2.ensures.is ∙ ap (cast_unsigned w8) (to_z-of_z w8 one.right fits') in
    let up = c.pattern-3.ensures.is ∙ ap (cast_unsigned w8) (to_z-of_z w8 one.up fits'') in
    let three = three_values one.angles (omega arith) in
    rw (c.from.ensures, c.from-2.ensures, c.from-3.ensures, forward, right, up, c.from-4.ensures, c.from-5.ensures)
    (ap (λ (angles : List ℕ). angles ++ cast_unsigned w8 one.forward ∷ cast_unsigned w8 one.right ∷ cast_unsigned w8 one.up ∷ one.buttons ∷ one.weapon ∷ []) (sym three))
