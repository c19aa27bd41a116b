use Rattle.std.proofs.Common.{◌≡◌, ◌*◌, ◌++◌}
use Rattle.std.specs.List.{flat_map, range_with_len}
use Rattle.q3_make.specs.Generated.{first_turns}
use Rattle.q3_make.proofs.make.push_first_turns.Given as goal

abbrev pub invariant-loop-c : goal.invariant-loop-c
invariant-loop-c l = l.events.items ≡ l.initial.events.items ++ flat_map (λ c. first_turns c (4 * c)) (range_with_len 0 l.c)
