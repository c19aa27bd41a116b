use Rattle.q3_schedules.proofs.StringsId.{strings_tell_id}
use Rattle.q3_schedules.proofs.laws.strings_tell_id.Goals as goal

pub returns : goal.returns
returns c = strings_tell_id c.bytes_follow_tags.ensures
