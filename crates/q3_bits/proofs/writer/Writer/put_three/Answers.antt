use Rattle.std.proofs.Common.{◌+◌, length, refl, ap, ◌∙◌, inl, inr, arith}
use Rattle.std.proofs.lemmas.Bool.{false≢true, cases_lt}
use Rattle.q3_bits.specs.Bits.{message_length}
use Rattle.q3_bits.specs.Streams.{Writing}
use Rattle.q3_bits.proofs.Numbers.{low_bits-join}
use Rattle.q3_bits.proofs.Texts.{Writes-none, Writes-whole}
use Rattle.q3_bits.proofs.Written.{joined-fits, in_two}
use Rattle.q3_bits.proofs.writer.Writer.put_three.Goals as goal

pub returns-then-not-has_room : goal.returns-then-not-has_room
returns-then-not-has_room c =
    let s = c.args.self.now in
    let front = c.short_field-front.result in
    let back = c.short_field-back.result in
    let both = in_two c.self.inside.code.now s.words front back c.args.first c.args.mark c.args.last (ap (λ (w : Writing). w.words) c.self.view_is) c.short_field-front.ensures.text c.short_field-back.ensures.text in
    Writes-none s _ _
    (elim (cases_lt s.room (message_length (length s.bits + (front.count + back.count)))) [
      | inl lt ↦ omega (arith, lt, both.long)
      | inr le ↦ absurd (false≢true (c.if-not-has_room.ensures.1 le))
    ])

pub overflow_add-bits : goal.overflow_add-bits
overflow_add-bits c =
    let front = c.short_field-front.result in
    let back = c.short_field-back.result in
    let fits = joined-fits front.count back.count front.bits back.bits (omega (arith, c.if-count-gt56.false)) c.short_field-front.ensures.fits c.short_field-back.ensures.fits in
    omega (arith, fits.0, fits.1, fits.2)

pub push-requires-clause-fits : goal.push-requires-clause-fits
push-requires-clause-fits c =
    let front = c.short_field-front.result in
    let back = c.short_field-back.result in
    let fits = joined-fits front.count back.count front.bits back.bits (omega (arith, c.if-count-gt56.false)) c.short_field-front.ensures.fits c.short_field-back.ensures.fits in
    rw fits.0 fits.1

pub returns : goal.returns
returns c =
    let s = c.args.self.now in
    let front = c.short_field-front.result in
    let back = c.short_field-back.result in
    let both = in_two c.self.inside.code.now s.words front back c.args.first c.args.mark c.args.last (ap (λ (w : Writing). w.words) c.self.view_is) c.short_field-front.ensures.text c.short_field-back.ensures.text in
    let fits = joined-fits front.count back.count front.bits back.bits (omega (arith, c.if-count-gt56.false)) c.short_field-front.ensures.fits c.short_field-back.ensures.fits in
    let joined = low_bits-join front.count back.count front.bits back.bits c.short_field-front.ensures.fits ∙ both.is in
    Writes-whole s c.push.new.self _ (λ over. omega (arith, over, c.if-not-has_room.ensures.0 refl, both.long)) (rw (c.push.ensures, fits.0, joined) refl)
