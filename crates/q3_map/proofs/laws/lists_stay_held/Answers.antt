use Rattle.q3_map.proofs.Held.{lists_stay_held}
use Rattle.q3_map.proofs.laws.lists_stay_held.Goals as goal

pub returns : goal.returns
returns c = lists_stay_held
