use Rattle.std.proofs.Common.{◌+◌, ◌-◌, ◌*◌, ◌++◌, length, drop, replicate}
use Rattle.q3_player.specs.Arrays.{changes_from}
use Rattle.q3_words.proofs.Placed.{Reaches}
use Rattle.q3_words.proofs.sparse.push_words.Given as goal

-- so many blocks were put
abbrev pub invariant-loop-k : goal.invariant-loop-k
invariant-loop-k l =
    Reaches l.kept.items (l.first + l.k * 8) (length l.words - l.k * 8) (drop (l.k * 8) l.words) (l.fn.kept.items ++ changes_from l.first (replicate (length l.words) 0) l.words)
