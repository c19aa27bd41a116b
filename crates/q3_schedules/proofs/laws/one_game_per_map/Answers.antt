use Rattle.q3_schedules.proofs.GamesLaws.{one_game_per_map}
use Rattle.q3_schedules.proofs.laws.one_game_per_map.Goals as goal

pub returns : goal.returns
returns c = one_game_per_map c.bytes_follow_tags.ensures
