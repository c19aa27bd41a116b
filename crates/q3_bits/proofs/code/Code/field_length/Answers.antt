use Rattle.std.proofs.Common.{◌/◌, ◌%◌, ◌^◌, length, ap, arith}
use Rattle.q3_bits.specs.Words.{bytes_bits}
use Rattle.q3_bits.proofs.CodeText.{field_bits-is}
use Rattle.q3_bits.proofs.Written.{gathered-all, length-gathered}
use Rattle.q3_bits.proofs.code.Code.field_length.Goals as goal

pub returns-clause-length : goal.returns-clause-length
returns-clause-length c =
    let words = c.args.self.now in
    let raw = c.args.width % 8 in
    let low = c.gather-low.result in
    let rest = c.gather-rest.result in
    let high = c.args.value / 2 ^ raw in
    let text = gathered-all words (c.args.width / 8) high c.min-first.result low.bits low.count rest.bits rest.count c.min-first.ensures c.gather-low.ensures.words c.gather-rest.ensures.words in
    let long = length-gathered c.args.value raw low.bits low.count rest.bits rest.count (bytes_bits words (c.args.width / 8) high) text in
    omega (arith, long, ap length (field_bits-is words c.args.width c.args.value))
