use Rattle.std.proofs.Common.{◌≡◌, ◌++◌, map}
use Rattle.std.specs.List.{range_with_len}
use Rattle.q3_make.specs.Generated.{joins}
use Rattle.q3_make.proofs.make.push_clients.Given as goal

abbrev pub invariant-loop-c : goal.invariant-loop-c
invariant-loop-c l = l.events.items ≡ l.initial.events.items ++ map joins (range_with_len 0 l.c)
