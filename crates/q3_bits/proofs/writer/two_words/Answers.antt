use Rattle.std.proofs.Common.{arith}
use Rattle.q3_bits.proofs.Numbers.{low_bits-join}
use Rattle.q3_bits.proofs.Written.{joined-fits}
use Rattle.q3_bits.proofs.writer.two_words.Goals as goal

pub returns-clause-bits : goal.returns-clause-bits
returns-clause-bits c =
    let low = c.args.low in
    let high = c.args.high in
    let fits = joined-fits low.length high.length low.bits high.bits (omega (arith, c.requires.low.short, c.requires.high.short)) c.requires.low.fits c.requires.high.fits in
    rw (c.from-length.ensures, c.from.ensures, c.from-2.ensures, c.from-3.ensures, fits.0) (low_bits-join low.length high.length low.bits high.bits c.requires.low.fits)

pub returns-clause-fits : goal.returns-clause-fits
returns-clause-fits c =
    let low = c.args.low in
    let high = c.args.high in
    let fits = joined-fits low.length high.length low.bits high.bits (omega (arith, c.requires.low.short, c.requires.high.short)) c.requires.low.fits c.requires.high.fits in
    rw (c.from-length.ensures, c.from.ensures, c.from-2.ensures, c.from-3.ensures, fits.0) fits.1
