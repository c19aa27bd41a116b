use Rattle.q3_rings.proofs.HeldAfter.{held_after}
use Rattle.q3_rings.proofs.laws.held_was_held.Goals as goal

pub returns : goal.returns
returns c = held_after
