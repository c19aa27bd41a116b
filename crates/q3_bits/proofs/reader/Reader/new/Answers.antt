use Rattle.std.proofs.Common.{◌≡◌, ◌*◌, ◌-◌, length, refl, ap, arith}
use Rattle.q3_bits.specs.Bits.{bits_of}
use Rattle.q3_bits.proofs.Numbers.{length-bits_of}
use Rattle.q3_bits.proofs.reader.Reader.new.Goals as goal

pub invariant_of-result : goal.invariant_of-result
invariant_of-result c = record {
  total = omega (arith, ap length c.new.ensures, length-bits_of c.args.bytes.now);
  code = c.word.ensures.is_code;
}

pub returns : goal.returns
returns c =
    let none : 8 * length c.args.bytes.now - length (bits_of c.args.bytes.now) ≡ 0 = omega (arith, length-bits_of c.args.bytes.now) in
    rw (c.new.ensures, none) refl
