use Rattle.std.proofs.Common.{◌+◌, ◌-◌, ◌++◌, length, drop, replicate}
use Rattle.q3_player.specs.Arrays.{changes_from}
use Rattle.q3_words.proofs.Placed.{Reaches}
use Rattle.q3_words.proofs.sparse.push_each.Given as goal

-- so many words were put
abbrev pub invariant-loop-k : goal.invariant-loop-k
invariant-loop-k l =
    Reaches l.kept.items (l.first + l.k) (length l.words - l.k) (drop l.k l.words) (l.fn.kept.items ++ changes_from l.first (replicate (length l.words) 0) l.words)
