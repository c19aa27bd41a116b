use Rattle.q3_demo.proofs.Fronts.{prefix_plays}
use Rattle.q3_demo.proofs.laws.a_prefix_plays_a_prefix.Goals as goal

pub returns : goal.returns
returns c = prefix_plays
