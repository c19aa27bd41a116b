use Rattle.q3_fields.proofs.Spelled.{player_field_spelled}
use Rattle.q3_fields.proofs.laws.player_field_is_spelled.Goals as goal

pub returns : goal.returns
returns c = player_field_spelled
