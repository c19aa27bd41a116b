use Rattle.std.proofs.Common.{arith}
use Rattle.q3_rings.proofs.PuttingBack.{next_rises}
use Rattle.q3_rings.proofs.rings.Rings.put_back.Goals as goal

pub place_back-requires : goal.place_back-requires
place_back-requires c = rw c.loop-entity.invariant (next_rises c.loop-entity.entity-index c.args.entities.now _ (omega arith) c.requires.rises)
