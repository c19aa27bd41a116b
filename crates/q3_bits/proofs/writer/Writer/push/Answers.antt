use Rattle.std.proofs.Common.{◌≡◌, ◌∙◌, length, ap, sym, arith}
use Rattle.q3_bits.specs.Streams.{Writing}
use Rattle.q3_bits.proofs.Written.{length-writing}
use Rattle.q3_bits.proofs.writer.Writer.push.Goals as goal

pub store-requires-clause-within : goal.store-requires-clause-within
store-requires-clause-within c =
    let w = c.self.inside in
    let n : length c.args.self.now.bits ≡ w.count = ap (λ (s : Writing). length s.bits) (sym c.self.view_is) ∙ length-writing w c.self.invariant c.self.told in
    let r : w.room ≡ c.args.self.now.room = ap (λ (s : Writing). s.room) c.self.view_is in
    omega (arith, c.requires.room, c.self.invariant.room)

pub invariant_of-self : goal.invariant_of-self
invariant_of-self c =
    let w = c.self.inside in
    let n : length c.args.self.now.bits ≡ w.count = ap (λ (s : Writing). length s.bits) (sym c.self.view_is) ∙ length-writing w c.self.invariant c.self.told in
    let r : w.room ≡ c.args.self.now.room = ap (λ (s : Writing). s.room) c.self.view_is in
    record {
      room = c.self.invariant.room;
      within = omega (arith, c.requires.room);
      clear = c.store.ensures.clear;
    }
