use Rattle.std.proofs.Common.{◌≡◌, ◌∙◌, ◌+◌, ◌^◌, ◌<◌, ◌-◌, sym, arith}
use Rattle.std.proofs.lemmas.Result.{err_from_is_err_and}
use Rattle.q3_bits.specs.Unread.{bits_ahead}
use Rattle.q3_bits.proofs.CodeText.{bytes_more, bytes_stop, bytes_end, byte_shifted}
use Rattle.q3_bits.proofs.reader.bytes_from.Goals as goal

pub returns-in_err-byte-clause-bytes_at : goal.returns-in_err-byte-clause-bytes_at
returns-in_err-byte-clause-bytes_at c =
    let p = err_from_is_err_and c.from_residual.result c.from_residual.ensures.1 in
    let stopped = bytes_stop c.args.code.now (c.args.count - c.loop-k.k) c.loop-k.number (256 ^ c.loop-k.k) (bits_ahead c.loop-k.left) c.in_err-byte.field-0.0 (omega arith) (sym c.in_err-byte.ensures.byte) in
    rw (p.1, p.2) (sym stopped ∙ c.loop-k.invariant.reads)

pub overflow_add-number : goal.overflow_add-number
overflow_add-number c =
    let small : c.from.result < 256 = omega (arith, c.in_ok-byte.ensures.small, c.from.ensures) in
    let fits = byte_shifted c.loop-k.number c.from.result c.loop-k.k (omega arith) c.loop-k.invariant.fits small in
    omega (arith, fits.1, fits.3)

pub loop-k-preserved : goal.loop-k-preserved
loop-k-preserved c =
    let small : c.from.result < 256 = omega (arith, c.in_ok-byte.ensures.small, c.from.ensures) in
    let fits = byte_shifted c.loop-k.number c.from.result c.loop-k.k (omega arith) c.loop-k.invariant.fits small in
    record {
      fits = fits.1;
      most = omega (arith, c.in_ok-byte.ensures.most, c.loop-k.invariant.most);
      near = omega (arith, c.in_ok-byte.ensures.near, c.loop-k.invariant.near);
      reads = rw (fits.0, fits.2, c.from.ensures) (sym (bytes_more c.args.code.now (c.args.count - c.loop-k.k) (c.args.count - (c.loop-k.k + 1)) c.loop-k.number (256 ^ c.loop-k.k) (bits_ahead c.loop-k.left) (c.in_ok-byte.byte, bits_ahead c.in_ok-byte.after) (omega arith) (sym c.in_ok-byte.ensures.byte)) ∙ c.loop-k.invariant.reads);
    }

pub returns-clause-bytes_at : goal.returns-clause-bytes_at
returns-clause-bytes_at c =
    let none : c.args.count - c.loop-k.k ≡ 0 = omega arith in
    sym (bytes_end c.args.code.now c.loop-k.number (256 ^ c.loop-k.k) (bits_ahead c.loop-k.left)) ∙ rw none at c.loop-k.invariant.reads
