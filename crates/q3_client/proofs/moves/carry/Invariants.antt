use Rattle.std.proofs.Common.{◌≡◌, ◌≤◌, ◌+◌, length, ◌++◌}
use Rattle.q3_client.specs.Moves.{most_moves, carried}
use Rattle.q3_client.proofs.moves.carry.Given as goal

-- what was copied and what is carried of those that are left
abbrev pub invariant-loop-issued : goal.invariant-loop-issued
invariant-loop-issued l =
    (goal.iterator-loop-issued).can_next l.issued-iterator
    × (goal.iterator-loop-issued).is_finite l.issued-iterator
    × (length l.into.items + length l.issued-iterator ≤ most_moves)
    × (l.into.items ++ carried l.number l.dup l.issued-iterator ≡ carried l.number l.dup l.moves.items)
