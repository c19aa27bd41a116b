use Rattle.q3_player.proofs.Normal.{normal_player-normal}
use Rattle.q3_player.proofs.laws.normal_is_normal.Goals as goal

pub returns : goal.returns
returns c = normal_player-normal c.normal_words_are_normal.ensures
