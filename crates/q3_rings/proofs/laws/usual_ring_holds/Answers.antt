use Rattle.q3_rings.proofs.Near.{usual_ring_holds}
use Rattle.q3_rings.proofs.laws.usual_ring_holds.Goals as goal

pub returns : goal.returns
returns c = usual_ring_holds
