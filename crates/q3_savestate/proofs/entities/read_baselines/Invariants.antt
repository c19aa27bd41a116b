use Rattle.q3_savestate.proofs.BaselinesRead.{HasBaselines}
use Rattle.q3_savestate.proofs.entities.read_baselines.Given as goal

abbrev pub invariant-loop : goal.invariant-loop
invariant-loop l = HasBaselines l.table l.count l.initial.cursor l.cursor l.counter l.least l.baselines
