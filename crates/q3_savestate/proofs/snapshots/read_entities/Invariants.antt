use Rattle.q3_savestate.proofs.EntitiesRead.{HasPlaced}
use Rattle.q3_savestate.proofs.snapshots.read_entities.Given as goal

abbrev pub invariant-loop : goal.invariant-loop
invariant-loop l = HasPlaced l.profile.entity l.count l.initial.cursor l.cursor l.counter l.least l.initial.rings l.rings
