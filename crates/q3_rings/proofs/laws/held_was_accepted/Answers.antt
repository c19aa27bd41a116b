use Rattle.q3_rings.proofs.Near.{held_was_accepted}
use Rattle.q3_rings.proofs.laws.held_was_accepted.Goals as goal

pub returns : goal.returns
returns c = held_was_accepted
