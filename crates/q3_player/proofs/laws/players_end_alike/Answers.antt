use Rattle.q3_player.proofs.Alike.{player_alike}
use Rattle.q3_player.proofs.laws.players_end_alike.Goals as goal

pub returns : goal.returns
returns c = player_alike c.words_end_alike.ensures
