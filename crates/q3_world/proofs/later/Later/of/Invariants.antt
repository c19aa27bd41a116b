use Rattle.std.proofs.Common.{◌≡◌}
use Rattle.q3_world.proofs.Forgetting.{TellsFirst}
use Rattle.q3_world.proofs.later.Later.of.Given as goal

abbrev pub invariant-loop-event : goal.invariant-loop-event
invariant-loop-event l = TellsFirst l.last.items l.events l.event-index × (l.done ≡ l.event-index)
