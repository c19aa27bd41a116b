use Rattle.std.proofs.Common.{◌≡◌, ◌++◌, Bool, List, take, ap, sym, ◌∙◌, append_assoc}
use Rattle.std.proofs.lemmas.Result.{err_from_is_err_and}
use Rattle.q3_bits.specs.Words.{field_bits}
use Rattle.q3_fields.specs.Deltas.{fields_bits}
use Rattle.q3_fields.proofs.delta.write_numbered.Goals as goal

pub returns-in_err-put_three : goal.returns-in_err-put_three
returns-in_err-put_three c =
    let words = c.args.w.now.words in
    let number = field_bits words c.args.number.1 c.args.number.0 in
    let mark = field_bits words c.args.mark.1 c.args.mark.0 in
    let fields = fields_bits c.args.state words (take c.args.count c.args.table.now.kinds) c.args.from.now c.args.to.now in
    let parts : number ++ (mark ++ (field_bits words 8 c.args.count ++ fields)) ≡ (number ++ (mark ++ field_bits words 8 c.args.count)) ++ fields =
    ap (λ (x : List Bool). number ++ x) (sym (append_assoc mark (field_bits words 8 c.args.count) fields)) ∙ sym (append_assoc number (mark ++ field_bits words 8 c.args.count) fields) in
    let p = err_from_is_err_and c.from_residual.result c.from_residual.ensures.1 in
    rw (p.1, p.2) (c.texts_are_written.ensures.early _ _ (number ++ (mark ++ field_bits words 8 c.args.count)) fields (number ++ (mark ++ (field_bits words 8 c.args.count ++ fields))) _ parts c.in_err-put_three.ensures)

pub returns : goal.returns
returns c =
    let words = c.args.w.now.words in
    let number = field_bits words c.args.number.1 c.args.number.0 in
    let mark = field_bits words c.args.mark.1 c.args.mark.0 in
    let fields = fields_bits c.args.state words (take c.args.count c.args.table.now.kinds) c.args.from.now c.args.to.now in
    let parts : number ++ (mark ++ (field_bits words 8 c.args.count ++ fields)) ≡ (number ++ (mark ++ field_bits words 8 c.args.count)) ++ fields =
    ap (λ (x : List Bool). number ++ x) (sym (append_assoc mark (field_bits words 8 c.args.count) fields)) ∙ sym (append_assoc number (mark ++ field_bits words 8 c.args.count) fields) in
    c.texts_are_written.ensures.then _ _ _ (number ++ (mark ++ field_bits words 8 c.args.count)) (number ++ (mark ++ (field_bits words 8 c.args.count ++ fields)))
    (λ ws. fields_bits c.args.state ws (take c.args.count c.args.table.now.kinds) c.args.from.now c.args.to.now) _ parts c.in_ok-put_three.ensures c.write_fields.ensures
