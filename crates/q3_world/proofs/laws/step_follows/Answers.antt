use Rattle.q3_world.proofs.ByTags.{step_follows}
use Rattle.q3_world.proofs.laws.step_follows.Goals as goal

pub returns : goal.returns
returns c = step_follows c.layers.ensures
