use Rattle.std.proofs.Common.{◌-◌, ◌≤◌, Ok, true}
use Rattle.q3_io.specs.Faults.{HasCause}
use Rattle.q3_io.specs.Written.{Wrote}
use Rattle.q3_io.specs.declared.sink.Failed.{Failed}
use Rattle.q3_demo.specs.Report.{held_texts}
use Rattle.q3_demo.proofs.state.print_held.Given as goal

abbrev pub invariant-loop-last : goal.invariant-loop-last
invariant-loop-last g l =
    Wrote (g.O.Sink.written l.initial.out) (g.O.Sink.written l.out) (held_texts l.state.held l.last) true
    × HasCause {T = Unit {0}} {E = Failed} (g.O.Sink.faults l.initial.out) (g.O.Sink.faults l.out) (Ok tt)
    × (l.last ≤ l.newest)

abbrev pub decreases-loop-last : goal.decreases-loop-last
decreases-loop-last g l = l.newest - l.last
