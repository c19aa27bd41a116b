use Rattle.q3_fields.proofs.Spelled.{entity_field_spelled}
use Rattle.q3_fields.proofs.laws.entity_field_is_spelled.Goals as goal

pub returns : goal.returns
returns c = entity_field_spelled c.player_field_is_spelled.ensures
