use Rattle.std.proofs.Common.{◌≡◌, take, length}
use Rattle.q3_player.specs.State.{patterns_of}
use Rattle.q3_words.proofs.sparse.patterns.Given as goal

-- so many values were turned
abbrev pub invariant-loop-k : goal.invariant-loop-k
invariant-loop-k l = record { done : take l.k l.words ≡ patterns_of (take l.k l.values); long : length l.words ≡ 16 }
