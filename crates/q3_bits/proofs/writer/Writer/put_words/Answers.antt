use Rattle.std.proofs.Common.{◌≡◌, ◌+◌, ◌++◌, length, refl, ap, inl, inr, arith}
use Rattle.std.proofs.lemmas.Bool.{false≢true, cases_lt}
use Rattle.q3_bits.specs.Bits.{low_bits, message_length}
use Rattle.q3_bits.specs.Words.{bytes_bits}
use Rattle.q3_bits.specs.Streams.{Writing}
use Rattle.q3_bits.proofs.Texts.{Writes-none, Writes-whole}
use Rattle.q3_bits.proofs.Written.{gathered-all, length-gathered}
use Rattle.q3_bits.proofs.writer.Writer.put_words.Goals as goal

pub returns-then-not-has_room-clause-writes : goal.returns-then-not-has_room-clause-writes
returns-then-not-has_room-clause-writes c =
    let s = c.args.self.now in
    let low = c.gather-low.result in
    let high = c.gather-high.result in
    let same : c.self.inside.code.now ≡ s.words = ap (λ (w : Writing). w.words) c.self.view_is in
    let text = rw same at (gathered-all c.self.inside.code.now c.args.bytes c.args.value c.min-first.result low.bits low.count high.bits high.count c.min-first.ensures c.gather-low.ensures.words c.gather-high.ensures.words) in
    let long = length-gathered c.args.raw c.args.count low.bits low.count high.bits high.count (bytes_bits s.words c.args.bytes c.args.value) text in
    Writes-none s (low_bits c.args.count c.args.raw ++ bytes_bits s.words c.args.bytes c.args.value) _
    (elim (cases_lt s.room (message_length (length s.bits + (c.args.count + low.count + high.count)))) [
      | inl lt ↦ omega (arith, lt, long)
      | inr le ↦ absurd (false≢true (c.if-not-has_room.ensures.1 le))
    ])

pub returns-clause-writes : goal.returns-clause-writes
returns-clause-writes c =
    let s = c.args.self.now in
    let low = c.gather-low.result in
    let high = c.gather-high.result in
    let same : c.self.inside.code.now ≡ s.words = ap (λ (w : Writing). w.words) c.self.view_is in
    let text = rw same at (gathered-all c.self.inside.code.now c.args.bytes c.args.value c.min-first.result low.bits low.count high.bits high.count c.min-first.ensures c.gather-low.ensures.words c.gather-high.ensures.words) in
    let long = length-gathered c.args.raw c.args.count low.bits low.count high.bits high.count (bytes_bits s.words c.args.bytes c.args.value) text in
    Writes-whole s c.push_words.new.self (low_bits c.args.count c.args.raw ++ bytes_bits s.words c.args.bytes c.args.value)
    (λ over. omega (arith, over, c.if-not-has_room.ensures.0 refl, long)) (rw (c.push_words.ensures, text) refl)
