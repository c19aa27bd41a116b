use Rattle.std.proofs.Common.{◌≡◌, false, eqb}
use Rattle.std.proofs.lemmas.Bool.{ne_eqb}
use Rattle.q3_fields.proofs.delta.write_field.Goals as goal

pub returns : goal.returns
returns c =
    let other : eqb c.args.from c.args.to ≡ false = ne_eqb c.args.from c.args.to c.if-from-to.false in
    rw other c.write_changed.ensures
