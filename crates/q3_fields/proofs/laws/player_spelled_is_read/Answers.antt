use Rattle.q3_fields.proofs.Spelled.{player_spelled_read}
use Rattle.q3_fields.proofs.laws.player_spelled_is_read.Goals as goal

pub returns : goal.returns
returns c = player_spelled_read c.put_is_read.ensures
