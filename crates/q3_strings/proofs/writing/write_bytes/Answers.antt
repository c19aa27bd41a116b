use Rattle.std.proofs.Common.{◌*◌, ◌/◌, drop, length}
use Rattle.std.proofs.lemmas.List.{take_rest}
use Rattle.std.proofs.lemmas.Result.{err_from_is_err_and}
use Rattle.q3_strings.specs.Texts.{bytes_row}
use Rattle.q3_strings.proofs.Rows.{bytes-parts}
use Rattle.q3_strings.proofs.writing.write_bytes.Goals as goal

pub returns-in_err-write_fours : goal.returns-in_err-write_fours
returns-in_err-write_fours c =
    let p = err_from_is_err_and c.from_residual.result c.from_residual.ensures.1 in
    let bytes = c.args.bytes.now in
    rw (bytes-parts c.args.w.now.words bytes (4 * (length bytes / 4)), p.1, p.2)
    (c.texts_are_written.ensures.refused (bytes_row c.args.w.now.words (drop (4 * (length bytes / 4)) bytes)) c.in_err-write_fours.ensures)

pub returns : goal.returns
returns c =
    let bytes = c.args.bytes.now in
    rw (bytes-parts c.args.w.now.words bytes (4 * (length bytes / 4)))
    (c.texts_are_written.ensures.next (λ ws. bytes_row ws (drop (4 * (length bytes / 4)) bytes)) c.in_ok-write_fours.ensures (rw (take_rest bytes (4 * (length bytes / 4))) at c.write_each.ensures))
