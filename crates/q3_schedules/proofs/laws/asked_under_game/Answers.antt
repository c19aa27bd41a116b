use Rattle.q3_schedules.proofs.GamesLaws.{asked_under_game}
use Rattle.q3_schedules.proofs.laws.asked_under_game.Goals as goal

pub returns : goal.returns
returns c = asked_under_game c.bytes_follow_tags.ensures
