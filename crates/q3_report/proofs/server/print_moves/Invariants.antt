use Rattle.std.proofs.Common.{take, Ok, true}
use Rattle.std.specs.List.{flat_map}
use Rattle.q3_io.specs.Faults.{HasCause}
use Rattle.q3_io.specs.Written.{Wrote}
use Rattle.q3_io.specs.declared.sink.Failed.{Failed}
use Rattle.q3_clmsg.specs.Report.{move_text}
use Rattle.q3_report.proofs.server.print_moves.Given as goal

abbrev pub invariant-loop-one : goal.invariant-loop-one
invariant-loop-one g l =
    Wrote (g.O.Sink.written l.initial.out) (g.O.Sink.written l.out) (flat_map move_text (take l.one-index l.moves)) true
    × HasCause {T = Unit {0}} {E = Failed} (g.O.Sink.faults l.initial.out) (g.O.Sink.faults l.out) (Ok tt)
