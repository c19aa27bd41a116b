use Rattle.q3_entity.proofs.SetBaselines.{none_are_baselines}
use Rattle.q3_entity.proofs.laws.none_are_baselines.Goals as goal

pub returns : goal.returns
returns c = none_are_baselines
