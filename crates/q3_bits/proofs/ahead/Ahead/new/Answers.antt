use Rattle.std.proofs.Common.{List, Bool, ◌++◌, ap}
use Rattle.q3_bits.specs.Bits.{bits_of}
use Rattle.q3_bits.proofs.Numbers.{low_bits-zero}
use Rattle.q3_bits.proofs.ahead.Ahead.new.Goals as goal

pub returns : goal.returns
returns c = ap (λ (xs : List Bool). xs ++ bits_of c.args.bytes.now) (low_bits-zero 0)
