use Rattle.q3_player.specs.State.{normal_player}
use Rattle.q3_player.specs.Delta.{player_delta}
use Rattle.q3_player.proofs.laws.written_is_read.Goals as goal

pub returns : goal.returns
returns c =
    λ words table from to rest code is_table state normal other.
    c.spelled_is_read.ensures words table from (normal_player table to) (player_delta words table from to) rest code is_table state (c.normal_is_normal.ensures table to is_table other).0
    (c.written_is_spelled.ensures words table from to code is_table state normal other)
