use Rattle.std.specs.Int.{w16, cast_signed}
use Rattle.q3_savestate.specs.Snapshots.{shorts_at}
use Rattle.q3_savestate.proofs.Numbers.{HasNumbers}
use Rattle.q3_savestate.proofs.snapshots.read_shorts.Given as goal

abbrev pub invariant-loop-k : goal.invariant-loop-k
invariant-loop-k l = HasNumbers (cast_signed w16) 2 (shorts_at l.initial.cursor) l.cursor l.k l.values
