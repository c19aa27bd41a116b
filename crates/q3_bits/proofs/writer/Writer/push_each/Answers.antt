use Rattle.std.proofs.Common.{◌++◌, arith}
use Rattle.std.proofs.lemmas.List.{length-append}
use Rattle.q3_bits.specs.Bits.{low_bits}
use Rattle.q3_bits.proofs.Numbers.{length-low_bits}
use Rattle.q3_bits.proofs.writer.Writer.push_each.Goals as goal

pub push-requires-2-clause-room : goal.push-requires-2-clause-room
push-requires-2-clause-room c =
    let raw = low_bits c.args.count c.from.result in
    rw c.push.ensures (omega (arith, c.requires.room, length-append c.args.self.now.bits raw, length-low_bits c.args.count c.from.result))

pub push-requires-3-clause-room : goal.push-requires-3-clause-room
push-requires-3-clause-room c =
    let bits = c.args.self.now.bits in
    let raw = low_bits c.args.count c.from.result in
    let low = low_bits c.args.low.count c.args.low.bits in
    rw (c.push-2.ensures, c.push.ensures)
    (omega (arith, c.requires.room, length-append bits raw, length-append (bits ++ raw) low, length-low_bits c.args.count c.from.result, length-low_bits c.args.low.count c.args.low.bits))
