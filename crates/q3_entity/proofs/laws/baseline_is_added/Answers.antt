use Rattle.q3_entity.proofs.SetBaselines.{baseline_is_added}
use Rattle.q3_entity.proofs.laws.baseline_is_added.Goals as goal

pub returns : goal.returns
returns c = baseline_is_added
