use Rattle.q3_entity_ring.proofs.Rounds.{put_after}
use Rattle.q3_entity_ring.proofs.laws.put_leaves_others.Goals as goal

pub returns : goal.returns
returns c = put_after
