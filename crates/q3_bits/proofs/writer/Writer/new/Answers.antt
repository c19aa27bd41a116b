use Rattle.std.proofs.Common.{refl}
use Rattle.q3_bits.specs.Bits.{low_bits, bits_of}
use Rattle.q3_bits.proofs.writer.Writer.new.Goals as goal

pub returns : goal.returns
unfolding low_bits bits_of
returns c = refl
