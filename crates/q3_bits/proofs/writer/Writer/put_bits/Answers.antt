use Rattle.std.proofs.Common.{◌+◌, length, refl, inl, inr, arith}
use Rattle.std.proofs.lemmas.Bool.{false≢true, cases_lt}
use Rattle.q3_bits.specs.Bits.{low_bits, message_length}
use Rattle.q3_bits.proofs.Numbers.{length-low_bits}
use Rattle.q3_bits.proofs.Texts.{Writes-none, Writes-whole}
use Rattle.q3_bits.proofs.writer.Writer.put_bits.Goals as goal

pub returns-then-not-has_room-clause-writes : goal.returns-then-not-has_room-clause-writes
returns-then-not-has_room-clause-writes c =
    let s = c.args.self.now in
    Writes-none s (low_bits c.args.count c.args.bits) _
    (elim (cases_lt s.room (message_length (length s.bits + c.args.count))) [
      | inl lt ↦ omega (arith, lt, length-low_bits c.args.count c.args.bits)
      | inr le ↦ absurd (false≢true (c.if-not-has_room.ensures.1 le))
    ])

pub returns-clause-writes : goal.returns-clause-writes
returns-clause-writes c =
    let s = c.args.self.now in
    Writes-whole s c.push.new.self (low_bits c.args.count c.args.bits) (λ over. omega (arith, over, c.if-not-has_room.ensures.0 refl, length-low_bits c.args.count c.args.bits))
    (rw (c.push.ensures, c.from.ensures) refl)
