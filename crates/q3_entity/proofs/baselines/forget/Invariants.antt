use Rattle.std.proofs.Common.{◌≡◌, length}
use Rattle.q3_entity.specs.Baselines.{most_baselines}
use Rattle.q3_entity.proofs.Placed.{ArePlacedFrom}
use Rattle.q3_entity.proofs.baselines.forget.Given as goal

-- the numbers whose places are left are those of the states that are left
abbrev pub invariant-loop-state : goal.invariant-loop-state
invariant-loop-state l = record {
  all : length l.places.items ≡ most_baselines;
  placed : ArePlacedFrom l.places.items l.states l.state-index;
}
