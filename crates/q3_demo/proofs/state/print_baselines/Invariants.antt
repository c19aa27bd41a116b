use Rattle.std.proofs.Common.{take, Ok, true}
use Rattle.std.specs.List.{flat_map}
use Rattle.q3_io.specs.Faults.{HasCause}
use Rattle.q3_io.specs.Written.{Wrote}
use Rattle.q3_io.specs.declared.sink.Failed.{Failed}
use Rattle.q3_demo.specs.Report.{baseline_text}
use Rattle.q3_demo.proofs.state.print_baselines.Given as goal

abbrev pub invariant-loop-number : goal.invariant-loop-number
invariant-loop-number g l =
    Wrote (g.O.Sink.written l.initial.out) (g.O.Sink.written l.out) (flat_map baseline_text (take l.number l.state.baselines)) true
    × HasCause {T = Unit {0}} {E = Failed} (g.O.Sink.faults l.initial.out) (g.O.Sink.faults l.out) (Ok tt)
