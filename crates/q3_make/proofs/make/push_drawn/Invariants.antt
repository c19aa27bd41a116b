use Rattle.std.proofs.Common.{◌≡◌, ◌+◌, ◌-◌, ◌++◌}
use Rattle.q3_make.specs.Generated.{rest_of}
use Rattle.q3_make.proofs.make.push_drawn.Given as goal

abbrev pub invariant-loop : goal.invariant-loop
invariant-loop l =
    (l.events.items ++ rest_of (l.number - l.counter) l.drawn ≡ l.initial.events.items ++ rest_of l.number l.initial.drawn)
    × (l.drawn.drawn ≡ l.initial.drawn.drawn + l.counter)
