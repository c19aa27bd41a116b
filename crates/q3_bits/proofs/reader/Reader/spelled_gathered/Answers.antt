use Rattle.std.proofs.Common.{◌≤◌, ◌∙◌, ◌+◌, ◌-◌, ◌*◌, ◌/◌, ◌^◌, List, Bool, length, ap, sym, arith}
use Rattle.q3_bits.specs.Bits.{bits_of, low_bits}
use Rattle.q3_bits.specs.Words.{field_at}
use Rattle.q3_bits.specs.Unread.{bits_ahead}
use Rattle.q3_bits.proofs.CodeText.{answer, field_at_some}
use Rattle.q3_bits.proofs.Gathered.{length-ahead, drop-gathered, passed, field_more}
use Rattle.q3_bits.proofs.reader.Reader.spelled_gathered.Goals as goal

pub returns-clause-found : goal.returns-clause-found
returns-clause-found c =
    let i = c.self.inside in
    let a = i.ahead in
    let left = bits_ahead a in
    let width = c.args.raw + 8 * c.args.bytes in
    let read = c.field_in-spelled.result in
    let front = low_bits (a.count - read.length) (a.bits / 2 ^ read.length) in
    let enough : read.length ≤ length left = omega (arith, length-ahead a.count a.bits a.rest.now, c.if-spelled-self.false) in
    rw (← c.self.view_is)
    (passed i.code.now i.total left (bits_ahead c.skip-self-inside.result) read.length read.value (field_at i.code.now width left) c.self.invariant.total enough c.skip-self-inside.ensures
    (field_more i.code.now width read.value (low_bits a.count a.bits) front (bits_of a.rest.now) c.self.invariant.code (c.field_in-spelled.ensures a.count a.few a.fits c.if-spelled-self.false)
    ∙ ap (λ (xs : List Bool). answer read.value xs) (sym (drop-gathered read.length a.count a.bits (bits_of a.rest.now) c.if-spelled-self.false))))

pub returns-clause-fits : goal.returns-clause-fits
returns-clause-fits c =
    let i = c.self.inside in
    let a = i.ahead in
    let read = c.field_in-spelled.result in
    (field_at_some i.code.now c.self.invariant.code (c.args.raw + 8 * c.args.bytes) (low_bits a.count a.bits) (read.value, low_bits (a.count - read.length) (a.bits / 2 ^ read.length))
    (c.field_in-spelled.ensures a.count a.few a.fits c.if-spelled-self.false)).0
