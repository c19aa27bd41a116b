use Rattle.std.proofs.Common.{◌+◌, ◌≤◌, List, ◌++◌, drop, length, None}
use Rattle.q3_profile.specs.declared.profile.Profile.{Profile}
use Rattle.q3_script.specs.declared.event.Event.{Event}
use Rattle.q3_counts.specs.declared.counts.Counts.{Counts}
use Rattle.q3_world.specs.Files.{AreNumbered}
use Rattle.q3net.specs.Trying.{CountsTo}
use Rattle.q3net.proofs.generated.step_part.Given as goal

abbrev pub invariant-loop-event : goal.invariant-loop-event
invariant-loop-event l =
    ((profile : Profile) (total : Counts) (after : List Event) → CountsTo profile l.initial.world (l.events ++ after) total → CountsTo profile l.world (drop l.event-index l.events ++ after) total)
    × (length l.world.kept.datagrams ≤ length l.initial.world.kept.datagrams + l.event-index)
    × AreNumbered None 1 l.world.numbers l.world.kept.ends
