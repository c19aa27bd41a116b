use Rattle.std.proofs.Common.{◌≡◌, false, eqb, ◌∙◌}
use Rattle.std.proofs.lemmas.Bool.{ne_eqb}
use Rattle.q3_fields.specs.Kinds.{norm}
use Rattle.q3_fields.specs.Texts.{entity_field}
use Rattle.q3_fields.proofs.writing.write_entity_field.Goals as goal

pub returns : goal.returns
unfolding entity_field
returns c =
    let other : eqb (norm c.args.kind c.args.word) 0 ≡ false = ne_eqb (norm c.args.kind c.args.word) 0 (λ e. c.if-norm-eq0.false (c.norm.ensures ∙ e)) in
    rw other c.write_marked.ensures
