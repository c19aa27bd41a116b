use Rattle.q3_savestate.specs.Snapshots.{numbers_at}
use Rattle.q3_savestate.proofs.Numbers.{HasNumbers}
use Rattle.q3_savestate.proofs.snapshots.read_longs.Given as goal

abbrev pub invariant-loop-k : goal.invariant-loop-k
invariant-loop-k l = HasNumbers (λ word. word) 4 (numbers_at 4 16 l.initial.cursor) l.cursor l.k l.words
