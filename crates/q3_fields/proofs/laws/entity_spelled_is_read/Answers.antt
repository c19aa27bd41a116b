use Rattle.q3_fields.proofs.Spelled.{entity_spelled_read}
use Rattle.q3_fields.proofs.laws.entity_spelled_is_read.Goals as goal

pub returns : goal.returns
returns c = entity_spelled_read c.put_is_read.ensures c.player_spelled_is_read.ensures
