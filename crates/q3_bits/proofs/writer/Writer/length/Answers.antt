use Rattle.std.proofs.Common.{◌≡◌, ◌∙◌, length, ap, sym, arith}
use Rattle.q3_bits.specs.Streams.{Writing}
use Rattle.q3_bits.proofs.Written.{length-writing}
use Rattle.q3_bits.proofs.writer.Writer.length.Goals as goal

pub returns-clause-length : goal.returns-clause-length
returns-clause-length c =
    let n : length c.args.self.now.bits ≡ c.self.inside.count = ap (λ (s : Writing). length s.bits) (sym c.self.view_is) ∙ length-writing c.self.inside c.self.invariant c.self.told in
    omega arith
