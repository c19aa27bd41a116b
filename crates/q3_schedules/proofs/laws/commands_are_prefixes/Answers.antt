use Rattle.q3_schedules.proofs.Prefixes.{commands_are_prefixes}
use Rattle.q3_schedules.proofs.laws.commands_are_prefixes.Goals as goal

pub returns : goal.returns
returns c = commands_are_prefixes c.bytes_follow_tags.ensures
