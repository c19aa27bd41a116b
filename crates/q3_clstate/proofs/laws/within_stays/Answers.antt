use Rattle.q3_clstate.proofs.Within.{new_within, bytes_within}
use Rattle.q3_clstate.proofs.laws.within_stays.Goals as goal

pub returns : goal.returns
returns c = record { none = new_within; apply = bytes_within c.read_is_spelled.ensures }
