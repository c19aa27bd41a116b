use Rattle.std.proofs.Common.{arith}
use Rattle.q3_fields.proofs.Normal.{unsigned-read}
use Rattle.q3_fields.proofs.reading.read_unsigned.Goals as goal

pub returns-then-width-eq-LONG : goal.returns-then-width-eq-LONG
returns-then-width-eq-LONG c =
    unsigned-read c.args.r.now.words c.args.width 32 c.args.r.now c.get_fixed.new.self c.get_fixed.result (omega (arith, c.from-width.ensures)) c.get_fixed.ensures.reads c.get_fixed.ensures.fits

pub returns : goal.returns
returns c = unsigned-read c.args.r.now.words c.args.width c.from-width.result c.args.r.now c.get_fixed-2.new.self c.get_fixed-2.result c.from-width.ensures c.get_fixed-2.ensures.reads c.get_fixed-2.ensures.fits
