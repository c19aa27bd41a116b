use Rattle.q3_player.proofs.PlayerSpelled.{player_was_spelled}
use Rattle.q3_player.proofs.laws.read_is_spelled.Goals as goal

pub returns : goal.returns
returns c = player_was_spelled c.words_read_are_spelled.ensures c.read_was_put.ensures c.player_read_is_spelled.ensures
