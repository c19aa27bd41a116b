use Rattle.std.proofs.Common.{◌%◌, arith}
use Rattle.std.proofs.lemmas.Nat.{one_shl}
use Rattle.q3_bits.proofs.Written.{marked-fits, short-fits, short-text}
use Rattle.q3_bits.proofs.writer.short_field.Goals as goal

pub overflow_add-bits : goal.overflow_add-bits
overflow_add-bits c =
    let raw = one_shl (c.args.field.1 % 8) 32 (omega arith) in
    let mark = one_shl c.args.mark.1 32 (omega (arith, c.requires.short)) in
    let words = c.gather-words.result in
    let moved = marked-fits c.args.mark.0 c.args.mark.1 (c.args.field.1 % 8) c.args.field.0 c.requires.short (omega arith) in
    let low = rw (raw, mark, moved.0) at c.from.ensures in
    let fits = short-fits c.args.mark.0 c.args.mark.1 (c.args.field.1 % 8) c.args.field.0 words.bits words.count c.requires.short (omega arith) (omega (arith, c.gather-words.ensures.few, c.requires.most)) c.gather-words.ensures.fits in
    omega (arith, low, fits.0, fits.1, fits.2)

pub returns-clause-fits : goal.returns-clause-fits
returns-clause-fits c =
    let raw = one_shl (c.args.field.1 % 8) 32 (omega arith) in
    let mark = one_shl c.args.mark.1 32 (omega (arith, c.requires.short)) in
    let words = c.gather-words.result in
    let moved = marked-fits c.args.mark.0 c.args.mark.1 (c.args.field.1 % 8) c.args.field.0 c.requires.short (omega arith) in
    let low = rw (raw, mark, moved.0) at c.from.ensures in
    let fits = short-fits c.args.mark.0 c.args.mark.1 (c.args.field.1 % 8) c.args.field.0 words.bits words.count c.requires.short (omega arith) (omega (arith, c.gather-words.ensures.few, c.requires.most)) c.gather-words.ensures.fits in
    rw (low, fits.0) fits.1

pub returns-clause-text : goal.returns-clause-text
returns-clause-text c =
    let raw = one_shl (c.args.field.1 % 8) 32 (omega arith) in
    let mark = one_shl c.args.mark.1 32 (omega (arith, c.requires.short)) in
    let words = c.gather-words.result in
    let moved = marked-fits c.args.mark.0 c.args.mark.1 (c.args.field.1 % 8) c.args.field.0 c.requires.short (omega arith) in
    let low = rw (raw, mark, moved.0) at c.from.ensures in
    let fits = short-fits c.args.mark.0 c.args.mark.1 (c.args.field.1 % 8) c.args.field.0 words.bits words.count c.requires.short (omega arith) (omega (arith, c.gather-words.ensures.few, c.requires.most)) c.gather-words.ensures.fits in
    rw (low, fits.0) (short-text c.args.code.now c.args.mark.0 c.args.mark.1 c.args.field.1 c.args.field.0 words.bits words.count c.requires.short c.gather-words.ensures.words)
