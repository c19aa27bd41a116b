use Rattle.std.proofs.lemmas.Result.{err_from_is_err_and}
use Rattle.q3_bits.specs.Words.{field_bits}
use Rattle.q3_entity.proofs.DeltaTexts.{opening-marks}
use Rattle.q3_entity.proofs.writing.write_opening.Goals as goal

pub returns : goal.returns
returns c =
    let number = rw (c.from.ensures, c.from-2.ensures, c.bits.ensures.bits) at c.in_ok-put.ensures.writes in
    rw (opening-marks c.args.w.now.words c.args.table.now c.args.number c.args.marks)
    (c.texts_are_written.ensures.next (λ ws. field_bits ws 2 c.args.marks) number c.put-2.ensures.writes)

pub returns-in_err-put : goal.returns-in_err-put
returns-in_err-put c =
    let number = rw (c.from.ensures, c.from-2.ensures, c.bits.ensures.bits) at c.in_err-put.ensures.writes in
    let p = err_from_is_err_and c.from_residual.result c.from_residual.ensures.1 in
    rw (opening-marks c.args.w.now.words c.args.table.now c.args.number c.args.marks, p.1, p.2)
    (c.texts_are_written.ensures.refused (field_bits c.args.w.now.words 2 c.args.marks) number)
