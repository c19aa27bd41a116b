use Rattle.q3_fields.proofs.LastChanged.{last_changed-agrees, last_changed-least}
use Rattle.q3_fields.proofs.laws.last_changed_is_least.Goals as goal

pub returns : goal.returns
returns c = λ from to same. (last_changed-agrees from to same, last_changed-least from to same)
