use Rattle.std.proofs.Common.{◌*◌, arith}
use Rattle.std.proofs.lemmas.Nat.{one_shl}
use Rattle.q3_bits.proofs.Gathered.{gathers}
use Rattle.q3_bits.proofs.ahead.Ahead.with.Goals as goal

pub overflow_add-result : goal.overflow_add-result
overflow_add-result c =
    let g = gathers c.args.self.count c.args.self.bits c.args.more c.args.word c.args.self.rest.now c.args.self.fits c.requires.room c.requires.there c.requires.word in
    rw (one_shl (8 * c.args.more) 64 (omega (arith, c.requires.room)), g.shifted) (omega (arith, g.fits, g.most))

pub invariant_of-result : goal.invariant_of-result
invariant_of-result c =
    let g = gathers c.args.self.count c.args.self.bits c.args.more c.args.word c.args.self.rest.now c.args.self.fits c.requires.room c.requires.there c.requires.word in
    record {
      few = omega (arith, c.requires.room);
      fits = rw (one_shl (8 * c.args.more) 64 (omega (arith, c.requires.room)), g.shifted) g.fits;
    }

pub returns-clause-bits : goal.returns-clause-bits
returns-clause-bits c =
    let g = gathers c.args.self.count c.args.self.bits c.args.more c.args.word c.args.self.rest.now c.args.self.fits c.requires.room c.requires.there c.requires.word in
    rw (one_shl (8 * c.args.more) 64 (omega (arith, c.requires.room)), g.shifted, c.bytes_after.ensures) g.same
