use Rattle.q3_server.proofs.Apart.{slots_apart}
use Rattle.q3_server.proofs.laws.slots_apart.Goals as goal

pub returns : goal.returns
returns c = slots_apart c.build_leaves_others.ensures
