use Rattle.std.proofs.Common.{◌≡◌, ◌∙◌, length, ap, sym, arith}
use Rattle.std.proofs.lemmas.Grind.{common_steps}
use Rattle.q3_bits.specs.Streams.{Writing}
use Rattle.q3_bits.proofs.Written.{length-writing}
use Rattle.q3_bits.proofs.writer.Writer.has_room.Goals as goal

pub returns : goal.returns
returns c =
    let w = c.self.inside in
    let n : length c.args.self.now.bits ≡ w.count = ap (λ (s : Writing). length s.bits) (sym c.self.view_is) ∙ length-writing w c.self.invariant c.self.told in
    let r : w.room ≡ c.args.self.now.room = ap (λ (s : Writing). s.room) c.self.view_is in
    grind (arith, common_steps)
