use Rattle.q3_fields.proofs.Spelled.{entity_read_spelled}
use Rattle.q3_fields.proofs.laws.entity_read_is_spelled.Goals as goal

pub returns : goal.returns
returns c = entity_read_spelled c.read_was_put.ensures c.player_read_is_spelled.ensures
