use Rattle.q3_world.proofs.Apart.{slots_apart}
use Rattle.q3_world.proofs.laws.slots_apart.Goals as goal

pub returns : goal.returns
returns c = slots_apart c.layers.ensures.server.apart
