use Rattle.q3_rings.proofs.Near.{near_is_held}
use Rattle.q3_rings.proofs.laws.near_is_held_by_age.Goals as goal

pub returns : goal.returns
returns c = near_is_held
