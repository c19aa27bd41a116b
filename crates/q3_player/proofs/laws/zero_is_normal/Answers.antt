use Rattle.q3_player.proofs.Normal.{zero_player-normal}
use Rattle.q3_player.proofs.laws.zero_is_normal.Goals as goal

pub returns : goal.returns
returns c = zero_player-normal
