use Rattle.q3_schedules.proofs.EverySchedule.{state_is_of_game}
use Rattle.q3_schedules.proofs.laws.state_is_of_game.Goals as goal

pub returns : goal.returns
returns c = state_is_of_game c.bytes_follow_tags.ensures
