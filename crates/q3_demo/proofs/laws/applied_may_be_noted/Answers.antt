use Rattle.q3_demo.proofs.Accepted.{may_note}
use Rattle.q3_demo.proofs.laws.applied_may_be_noted.Goals as goal

pub returns : goal.returns
returns c = may_note c.read_is_spelled.ensures c.applied_is_context.ensures c.accepted_is_held.ensures
