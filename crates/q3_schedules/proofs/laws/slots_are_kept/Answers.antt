use Rattle.q3_schedules.proofs.SlotsStay.{slots_are_kept}
use Rattle.q3_schedules.proofs.laws.slots_are_kept.Goals as goal

pub returns : goal.returns
returns c = slots_are_kept
