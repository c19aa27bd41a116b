use Rattle.q3_fields.proofs.Magnitudes.{exponent_up_to-is, leading_zeros-is}
use Rattle.q3_fields.proofs.float.exponent_of.Goals as goal

pub returns : goal.returns
returns c =
    let is = leading_zeros-is c.args.number c.requires.some c.requires.most in
    let h = exponent_up_to-is c.args.number c.requires.some c.requires.most in
    record { exponent = is; least = rw is h.least; most = rw is h.most; few = rw is h.few }
