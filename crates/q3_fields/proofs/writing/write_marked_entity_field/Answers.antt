use Rattle.std.proofs.Common.{◌≡◌, ◌++◌, true, false, eqb, sym, ◌∙◌, append_assoc, arith}
use Rattle.std.proofs.lemmas.Bool.{ne_eqb, eq-eqb}
use Rattle.q3_bits.specs.Words.{field_bits}
use Rattle.q3_fields.specs.Kinds.{norm}
use Rattle.q3_fields.specs.Texts.{player_field, entity_field}
use Rattle.q3_fields.proofs.writing.write_marked_entity_field.Goals as goal

pub returns-then-norm-eq0 : goal.returns-then-norm-eq0
unfolding entity_field
returns-then-norm-eq0 c =
    let words = c.args.w.now.words in
    let zero : eqb (norm c.args.kind c.args.word) 0 ≡ true = eq-eqb (norm c.args.kind c.args.word) 0 (sym c.norm.ensures ∙ c.if-norm-eq0.true) in
    let both : field_bits words 2 1 ≡ field_bits words 1 1 ++ field_bits words 1 0 = c.marks_are_joined.ensures.join words 1 1 1 0 (omega arith) (omega arith) in
    rw (zero, ← both) c.put.ensures.writes

pub returns : goal.returns
unfolding entity_field
returns c =
    let words = c.args.w.now.words in
    let other : eqb (norm c.args.kind c.args.word) 0 ≡ false = ne_eqb (norm c.args.kind c.args.word) 0 (λ e. c.if-norm-eq0.false (c.norm.ensures ∙ e)) in
    let both : field_bits words 2 3 ≡ field_bits words 1 1 ++ field_bits words 1 1 = c.marks_are_joined.ensures.join words 1 1 1 1 (omega arith) (omega arith) in
    rw (other, ← append_assoc (field_bits words 1 1) (field_bits words 1 1) (player_field words c.args.kind c.args.word), ← both) c.write_marked.ensures
