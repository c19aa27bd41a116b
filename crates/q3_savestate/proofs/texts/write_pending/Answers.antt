use Rattle.std.proofs.Common.{◌++◌, length, refl, arith}
use Rattle.std.proofs.lemmas.Result.{err_from_is_err_and}
use Rattle.byteorder.specs.Endian.{little_bytes}
use Rattle.q3_savestate.proofs.texts.write_pending.Goals as goal

pub returns-in_err-write_byte-clause-adds : goal.returns-in_err-write_byte-clause-adds
returns-in_err-write_byte-clause-adds g c =
    let p = err_from_is_err_and c.from_residual.result c.from_residual.ensures.1 in
    rw (p.1, ← c.in-Some.ensures.pending) (c.texts_follow.ensures.early (little_bytes 4 c.in-Some.index ++ little_bytes 2 (length c.in-Some.text.now) ++ c.in-Some.text.now) c.in_err-write_byte.ensures.adds refl)

pub overflow_cast-text : goal.overflow_cast-text
overflow_cast-text g c =
    let kept = rw (← c.in-Some.ensures.pending) at c.pending.ensures.strings.pending in
    omega (arith, kept.1)

pub returns-in_err-write_long-clause-adds : goal.returns-in_err-write_long-clause-adds
returns-in_err-write_long-clause-adds g c =
    let p = err_from_is_err_and c.from_residual-in_err-write_long.result c.from_residual-in_err-write_long.ensures.1 in
    rw (p.1, ← c.in-Some.ensures.pending) (c.texts_follow.ensures.early (little_bytes 2 (length c.in-Some.text.now) ++ c.in-Some.text.now) (c.texts_follow.ensures.more c.in_ok-write_byte.ensures.adds c.in_err-write_long.ensures.adds refl) refl)

pub returns-in_err-write_short-clause-adds : goal.returns-in_err-write_short-clause-adds
returns-in_err-write_short-clause-adds g c =
    let p = err_from_is_err_and c.from_residual-in_err-write_short.result c.from_residual-in_err-write_short.ensures.1 in
    let law = c.texts_follow.ensures in
    rw (p.1, ← c.in-Some.ensures.pending) (law.early c.in-Some.text.now (law.more (law.more c.in_ok-write_byte.ensures.adds c.in_ok-write_long.ensures.adds refl) c.in_err-write_short.ensures.adds refl) refl)

pub returns-clause-adds : goal.returns-clause-adds
returns-clause-adds g c =
    let law = c.texts_follow.ensures in
    rw (← c.in-Some.ensures.pending) (law.more (law.more (law.more c.in_ok-write_byte.ensures.adds c.in_ok-write_long.ensures.adds refl) c.in_ok-write_short.ensures.adds refl) c.write_all.ensures.adds refl)
