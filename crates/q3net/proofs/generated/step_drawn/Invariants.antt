use Rattle.std.proofs.Common.{◌≡◌, ◌+◌, ◌-◌, ◌≤◌, length, None}
use Rattle.q3_profile.specs.declared.profile.Profile.{Profile}
use Rattle.q3_make.specs.Generated.{rest_of}
use Rattle.q3_counts.specs.declared.counts.Counts.{Counts}
use Rattle.q3_world.specs.Files.{AreNumbered}
use Rattle.q3net.specs.Trying.{CountsTo}
use Rattle.q3net.proofs.generated.step_drawn.Given as goal

abbrev pub invariant-loop : goal.invariant-loop
invariant-loop l =
    ((profile : Profile) (total : Counts) → CountsTo profile l.initial.world (rest_of l.number l.initial.drawn) total → CountsTo profile l.world (rest_of (l.number - l.counter) l.drawn) total)
    × (l.drawn.drawn ≡ l.initial.drawn.drawn + l.counter)
    × (length l.world.kept.datagrams ≤ length l.initial.world.kept.datagrams + l.counter)
    × AreNumbered None 1 l.world.numbers l.world.kept.ends
