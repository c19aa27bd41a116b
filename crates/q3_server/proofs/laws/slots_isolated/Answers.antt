use Rattle.q3_server.proofs.Isolated.{slots_isolated}
use Rattle.q3_server.proofs.laws.slots_isolated.Goals as goal

pub returns : goal.returns
returns c = slots_isolated c.slots_apart.ensures
