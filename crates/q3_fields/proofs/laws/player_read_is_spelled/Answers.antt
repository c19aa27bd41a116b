use Rattle.q3_fields.proofs.Spelled.{player_read_spelled}
use Rattle.q3_fields.proofs.laws.player_read_is_spelled.Goals as goal

pub returns : goal.returns
returns c = player_read_spelled c.read_was_put.ensures
