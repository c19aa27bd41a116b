use Rattle.q3_player.proofs.PlayerSpelled.{player_is_read}
use Rattle.q3_player.proofs.laws.spelled_is_read.Goals as goal

pub returns : goal.returns
returns c = player_is_read c.words_spelled_are_read.ensures c.put_is_read.ensures c.player_spelled_is_read.ensures
