use Rattle.q3_player.proofs.PlayerSpelled.{delta_is_spelled}
use Rattle.q3_player.proofs.laws.written_is_spelled.Goals as goal

pub returns : goal.returns
returns c = λ words table from to code is_table state normal other. delta_is_spelled c.words_are_spelled.ensures c.player_field_is_spelled.ensures words table from to code is_table state normal other
