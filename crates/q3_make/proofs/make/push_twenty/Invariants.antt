use Rattle.std.proofs.Common.{◌≡◌, ◌+◌, ◌*◌, ◌++◌}
use Rattle.std.specs.List.{flat_map, range_with_len}
use Rattle.q3_make.specs.Generated.{last_turn}
use Rattle.q3_make.proofs.make.push_twenty.Given as goal

abbrev pub invariant-loop-k : goal.invariant-loop-k
invariant-loop-k l = l.events.items ≡ l.initial.events.items ++ flat_map (λ k. last_turn l.c (l.made + 2 * k) (1000001 + k)) (range_with_len 0 l.k)
