use Rattle.std.proofs.Common.{◌≡◌, ◌+◌, length}
use Rattle.q3_entity.specs.Entities.{RiseFrom}
use Rattle.q3_tests.proofs.snapshots.entities.Given as goal

-- so many entities, numbered from 1
abbrev pub invariant-loop-number : goal.invariant-loop-number
invariant-loop-number l = record {
  count : length l.list.items ≡ l.number;
  rise : RiseFrom (l.number + 1) 0 l.list.items;
}
