use Rattle.std.proofs.Common.{◌∷◌, []}
use Rattle.std.proofs.lemmas.Result.{err_from_is_err_and}
use Rattle.q3_bits.specs.Words.{row_bits}
use Rattle.q3_strings.proofs.Rows.{string-is}
use Rattle.q3_strings.proofs.writing.write_string.Goals as goal

pub returns-in_err-write_bytes : goal.returns-in_err-write_bytes
returns-in_err-write_bytes c =
    let p = err_from_is_err_and c.from_residual.result c.from_residual.ensures.1 in
    rw (string-is c.args.w.now.words c.args.text.now, p.1, p.2)
    (c.texts_are_written.ensures.refused (row_bits c.args.w.now.words ((0, 8) ∷ [])) c.in_err-write_bytes.ensures)

pub returns : goal.returns
returns c =
    rw (string-is c.args.w.now.words c.args.text.now)
    (c.texts_are_written.ensures.next (λ ws. row_bits ws ((0, 8) ∷ [])) c.in_ok-write_bytes.ensures c.put_all.ensures)
