use Rattle.q3_rings.proofs.Accepting.{accept_stays, put_back_stays, none_are_held}
use Rattle.q3_rings.proofs.laws.snapshots_stay.Goals as goal

pub returns : goal.returns
returns c = record { none = none_are_held; accept = accept_stays; put_back = put_back_stays }
