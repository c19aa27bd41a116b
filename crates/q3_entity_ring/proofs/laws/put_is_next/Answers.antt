use Rattle.q3_entity_ring.proofs.Rounds.{put_next}
use Rattle.q3_entity_ring.proofs.laws.put_is_next.Goals as goal

pub returns : goal.returns
returns c = put_next
