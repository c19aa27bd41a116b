use Rattle.q3_script.proofs.InRange.{in_range}
use Rattle.q3_script.proofs.laws.events_are_in_range.Goals as goal

pub returns : goal.returns
returns c = λ kind event is. in_range kind event is
