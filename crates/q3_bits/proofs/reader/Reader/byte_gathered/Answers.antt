use Rattle.std.proofs.Common.{◌≡◌, ◌≤◌, ◌<◌, ◌∙◌, ◌-◌, ◌/◌, ◌^◌, length, ap, sym, arith}
use Rattle.q3_bits.specs.Bits.{bits_of, low_bits}
use Rattle.q3_bits.specs.Words.{field_at}
use Rattle.q3_bits.specs.Unread.{bits_ahead}
use Rattle.q3_bits.proofs.CodeText.{answer}
use Rattle.q3_bits.proofs.Numbers.{length-low_bits}
use Rattle.q3_bits.proofs.Gathered.{length-ahead, drop-gathered, passed, field_more, field_byte, window-gathered}
use Rattle.q3_bits.proofs.reader.Reader.byte_gathered.Goals as goal

pub returns : goal.returns
returns c =
    let i = c.self.inside in
    let a = i.ahead in
    let words = i.code.now in
    let left = bits_ahead a in
    let byte = c.entry-entry.result.byte in
    let long = c.entry-entry.result.length in
    let text = low_bits a.count a.bits in
    let front = low_bits (a.count - long) (a.bits / 2 ^ long) in
    let few : long ≤ a.count = omega (arith, c.if-length-self.false, c.from-length.ensures) in
    let some : long < 64 = omega (arith, few, a.few) in
    let found = c.entry-entry.ensures.found text (window-gathered a.count a.bits a.fits) some (omega (arith, few, length-low_bits a.count a.bits)) in
    let here : field_at words 8 text ≡ answer byte front = field_byte words a.bits byte long a.count few found in
    let enough : long ≤ length left = omega (arith, length-ahead a.count a.bits a.rest.now, few) in
    let skipped = rw c.from-length.ensures at c.skip-self-inside.ensures in
    rw (← c.self.view_is)
    (record {
      found = passed words i.total left (bits_ahead c.skip-self-inside.result) long byte (field_at words 8 left) c.self.invariant.total enough skipped
          (field_more words 8 byte text front (bits_of a.rest.now) c.self.invariant.code here
          ∙ ap (answer byte) (sym (drop-gathered long a.count a.bits (bits_of a.rest.now) few)));
    })
