use Rattle.std.proofs.Common.{◌≤◌, ◌∙◌, ◌%◌, ◌^◌, ℕ, length, drop, ap, arith}
use Rattle.std.proofs.lemmas.Nat.{one_shl}
use Rattle.q3_bits.specs.Bits.{bits_of}
use Rattle.q3_bits.specs.Words.{field_at}
use Rattle.q3_bits.specs.Unread.{bits_ahead}
use Rattle.q3_bits.proofs.CodeText.{answer}
use Rattle.q3_bits.proofs.Gathered.{length-ahead, number-gathered, passed, field_raw}
use Rattle.q3_bits.proofs.reader.Reader.raw_gathered.Goals as goal

pub returns-clause-found : goal.returns-clause-found
returns-clause-found c =
    let i = c.self.inside in
    let a = i.ahead in
    let left = bits_ahead a in
    let width = c.args.width in
    let enough : width ≤ length left = omega (arith, length-ahead a.count a.bits a.rest.now, c.if-self-width.false) in
    rw (← c.self.view_is, one_shl width 64 (omega arith))
    (passed i.code.now i.total left (bits_ahead c.skip-self-inside.result) width (a.bits % 2 ^ width) (field_at i.code.now width left) c.self.invariant.total enough c.skip-self-inside.ensures
    (field_raw i.code.now width left c.requires enough ∙ ap (λ (n : ℕ). answer n (drop width left)) (number-gathered width a.count a.bits (bits_of a.rest.now) c.if-self-width.false)))
