use Rattle.std.proofs.Common.{◌≡◌, ◌%◌, Bool, List, subst, arith}
use Rattle.std.proofs.lemmas.Nat.{one_shl}
use Rattle.q3_bits.specs.Streams.{Writes}
use Rattle.q3_bits.proofs.Written.{field_bits-put, field_bits-raw}
use Rattle.q3_bits.proofs.writer.Writer.put.Goals as goal

pub returns-then-width-lt8-clause-writes : goal.returns-then-width-lt8-clause-writes
returns-then-width-lt8-clause-writes c =
    let s = c.args.self.now in
    let shift = one_shl (c.args.width % 8) 32 (omega arith) in
    let raw : c.args.width % 8 ≡ c.args.width = omega (arith, c.if-width-lt8.true) in
    let writes = rw (shift, raw) at c.put_bits.ensures.writes in
    subst (λ (text : List Bool). Writes s c.put_bits.new.self text c.put_bits.result) (field_bits-raw s.words c.args.width c.args.value c.if-width-lt8.true) writes

pub returns-clause-writes : goal.returns-clause-writes
returns-clause-writes c =
    let s = c.args.self.now in
    let shift = one_shl (c.args.width % 8) 32 (omega arith) in
    let writes = rw shift at c.put_words.ensures.writes in
    subst (λ (text : List Bool). Writes s c.put_words.new.self text c.put_words.result) (field_bits-put s.words c.args.width c.args.value) writes
