use Rattle.std.proofs.Common.{◌≡◌, ◌+◌, ◌-◌, ◌^◌, ◌<◌, ℕ, subst, sym, arith}
use Rattle.std.proofs.lemmas.Nat.{shr_below}
use Rattle.q3_bits.specs.Bits.{bits_of}
use Rattle.q3_bits.proofs.Gathered.{drop-gathered}
use Rattle.q3_bits.proofs.ahead.Ahead.skip.Goals as goal

pub invariant_of-result : goal.invariant_of-result
invariant_of-result c =
    let a = c.args.self in
    let whole : a.count ≡ a.count - c.args.count + c.args.count = omega (arith, c.requires) in
    record {
      few = omega (arith, a.few);
      fits = shr_below a.bits (a.count - c.args.count) c.args.count (subst (λ (n : ℕ). a.bits < 2 ^ n) whole a.fits);
    }

pub returns : goal.returns
returns c = sym (drop-gathered c.args.count c.args.self.count c.args.self.bits (bits_of c.args.self.rest.now) c.requires)
