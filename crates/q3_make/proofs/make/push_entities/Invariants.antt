use Rattle.std.proofs.Common.{◌≡◌, ◌++◌, map}
use Rattle.std.specs.List.{range_with_len}
use Rattle.q3_script.specs.declared.event.Event.TheVariants.{Entity}
use Rattle.q3_make.specs.Generated.{entity_with}
use Rattle.q3_make.proofs.make.push_entities.Given as goal

abbrev pub invariant-loop-k : goal.invariant-loop-k
invariant-loop-k l = l.events.items ≡ l.initial.events.items ++ map (λ n. Entity (entity_with n 1 n)) (range_with_len 1 l.k)
