use Rattle.q3_slot.proofs.Listed.{nothing_is_listed}
use Rattle.q3_slot.proofs.laws.nothing_is_listed.Goals as goal

pub returns : goal.returns
returns c = nothing_is_listed c.nothing_is_held.ensures
