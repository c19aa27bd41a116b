use Rattle.std.proofs.Common.{◌≡◌, take, length}
use Rattle.q3_player.specs.State.{shorts_of}
use Rattle.q3_player.proofs.state.shorts.Given as goal

-- so many words were turned
abbrev pub invariant-loop-k : goal.invariant-loop-k
invariant-loop-k l = record { done : take l.k l.values ≡ shorts_of (take l.k l.words); long : length l.values ≡ 16 }
