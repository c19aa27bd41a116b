use Rattle.q3_schedules.proofs.Legible.{always_legible}
use Rattle.q3_schedules.proofs.laws.always_legible.Goals as goal

pub returns : goal.returns
returns c = always_legible c.step_follows.ensures c.layers.ensures
