use Rattle.std.proofs.Common.{◌++◌, length, refl}
use Rattle.std.proofs.lemmas.Result.{err_from_is_err_and}
use Rattle.byteorder.specs.Endian.{little_bytes}
use Rattle.q3_savestate.proofs.texts.write_string.Goals as goal

pub returns-in_err-write_short-clause-adds : goal.returns-in_err-write_short-clause-adds
returns-in_err-write_short-clause-adds g c =
    let p = err_from_is_err_and c.from_residual.result c.from_residual.ensures.1 in
    let text = c.args.text.now in
    rw p.1 (c.texts_follow.ensures.early (little_bytes 2 (length text) ++ text) c.in_err-write_short.ensures.adds refl)

pub returns-in_err-write_short-2-clause-adds : goal.returns-in_err-write_short-2-clause-adds
returns-in_err-write_short-2-clause-adds g c =
    let p = err_from_is_err_and c.from_residual-in_err-write_short-2.result c.from_residual-in_err-write_short-2.ensures.1 in
    let text = c.args.text.now in
    rw p.1 (c.texts_follow.ensures.early text (c.texts_follow.ensures.more c.in_ok-write_short.ensures.adds c.in_err-write_short-2.ensures.adds refl) refl)
