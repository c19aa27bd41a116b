use Rattle.std.proofs.Common.{◌/◌, get_or, refl, arith}
use Rattle.q3_bits.proofs.Written.{HasStored-none, HasStored-more, stored-fits}
use Rattle.q3_bits.proofs.writer.store_each.Goals as goal

pub overflow_add-rest : goal.overflow_add-rest
overflow_add-rest c =
    let fits = stored-fits (get_or c.args.bytes.now (c.args.place / 8) 0) c.args.place c.args.bits c.args.count c.requires.clear.part c.requires.fits c.requires.few in
    omega (arith, fits.0, fits.1, c.from.ensures)

pub loop-k-init : goal.loop-k-init
loop-k-init c =
    let fits = stored-fits (get_or c.args.bytes.now (c.args.place / 8) 0) c.args.place c.args.bits c.args.count c.requires.clear.part c.requires.fits c.requires.few in
    record {
      stored = rw (fits.0, c.from.ensures) (HasStored-none c.args.bytes.now c.args.place c.args.bits c.args.count c.requires.clear c.requires.fits);
      end = refl;
      within = omega arith;
    }

pub loop-k-preserved : goal.loop-k-preserved
loop-k-preserved c = record {
  stored = HasStored-more _ _ _ _ _ _ _ c.loop-k.invariant.stored (omega arith) (omega (arith, c.loop-k.invariant.stored.places, c.requires.within));
  end = refl;
  within = omega arith;
}
