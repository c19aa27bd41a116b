use Rattle.std.proofs.Common.{◌≡◌, ◌+◌, ◌*◌, ◌%◌, ◌^◌, refl, arith}
use Rattle.q3_bits.proofs.Written.{three-fit}
use Rattle.q3_bits.proofs.writer.Writer.push_words.Goals as goal

pub overflow_add-bits : goal.overflow_add-bits
overflow_add-bits c =
    let low = c.args.low in
    let high = c.args.high in
    let fits = three-fit c.args.count low.count high.count c.args.raw low.bits high.bits c.if-front-high-le56.true c.requires.fits c.requires.low_fits c.requires.high_fits in
    omega (arith, c.from.ensures, fits.0, fits.1)

pub overflow_add-bits-then-front-high-le56 : goal.overflow_add-bits-then-front-high-le56
overflow_add-bits-then-front-high-le56 c =
    let low = c.args.low in
    let high = c.args.high in
    let fits = three-fit c.args.count low.count high.count c.args.raw low.bits high.bits c.if-front-high-le56.true c.requires.fits c.requires.low_fits c.requires.high_fits in
    omega (arith, c.from.ensures, fits.0, fits.2, fits.3, fits.4)

pub push-requires-clause-fits : goal.push-requires-clause-fits
push-requires-clause-fits c =
    let low = c.args.low in
    let high = c.args.high in
    let fits = three-fit c.args.count low.count high.count c.args.raw low.bits high.bits c.if-front-high-le56.true c.requires.fits c.requires.low_fits c.requires.high_fits in
    omega (arith, c.from.ensures, fits.0, fits.2, fits.3)

pub returns-then-front-high-le56 : goal.returns-then-front-high-le56
returns-then-front-high-le56 c =
    let low = c.args.low in
    let high = c.args.high in
    let fits = three-fit c.args.count low.count high.count c.args.raw low.bits high.bits c.if-front-high-le56.true c.requires.fits c.requires.low_fits c.requires.high_fits in
    let number : c.from.result + low.bits * 2 ^ c.args.count % 18446744073709551616 + high.bits * 2 ^ (c.args.count + low.count) % 18446744073709551616
    ≡ c.args.raw + low.bits * 2 ^ c.args.count + high.bits * 2 ^ (c.args.count + low.count) = omega (arith, c.from.ensures, fits.0, fits.2) in
    rw (c.push.ensures, number, fits.5) refl
