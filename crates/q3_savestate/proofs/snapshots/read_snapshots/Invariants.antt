use Rattle.q3_savestate.proofs.SnapshotsRead.{HasBack}
use Rattle.q3_savestate.proofs.snapshots.read_snapshots.Given as goal

abbrev pub invariant-loop-k : goal.invariant-loop-k
invariant-loop-k l = HasBack l.profile l.newest l.count l.initial.cursor l.cursor l.k l.most l.rings
