use Rattle.std.proofs.Common.{◌∙◌, ap, sym, arith}
use Rattle.q3_bits.specs.Streams.{Writing}
use Rattle.q3_bits.specs.Bits.{message_bytes}
use Rattle.q3_bits.proofs.Written.{message_bytes-within}
use Rattle.q3_bits.proofs.writer.Writer.bytes.Goals as goal

pub returns-clause-message : goal.returns-clause-message
returns-clause-message c =
    let w = c.self.inside in
    c.front.ensures.front
    ∙ sym (message_bytes-within w.bytes w.count c.front.ensures.bytes (omega (arith, c.self.invariant.room, c.self.invariant.within)) c.self.invariant.clear.part)
    ∙ ap (λ (s : Writing). message_bytes s.bits) c.self.view_is
