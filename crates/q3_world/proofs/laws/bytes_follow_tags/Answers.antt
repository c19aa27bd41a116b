use Rattle.q3_world.proofs.ByTags.{bytes_follow_tags}
use Rattle.q3_world.proofs.laws.bytes_follow_tags.Goals as goal

pub returns : goal.returns
returns c = bytes_follow_tags c.step_follows.ensures c.layers.ensures
