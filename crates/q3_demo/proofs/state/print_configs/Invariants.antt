use Rattle.std.proofs.Common.{take, Ok, true}
use Rattle.q3_io.specs.Faults.{HasCause}
use Rattle.q3_io.specs.Written.{Wrote}
use Rattle.q3_io.specs.declared.sink.Failed.{Failed}
use Rattle.q3_demo.specs.Report.{configs_text}
use Rattle.q3_demo.proofs.state.print_configs.Given as goal

abbrev pub invariant-loop-index : goal.invariant-loop-index
invariant-loop-index g l =
    Wrote (g.O.Sink.written l.initial.out) (g.O.Sink.written l.out) (configs_text 0 (take l.index l.state.strings.texts)) true
    × HasCause {T = Unit {0}} {E = Failed} (g.O.Sink.faults l.initial.out) (g.O.Sink.faults l.out) (Ok tt)
