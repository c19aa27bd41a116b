use Rattle.std.proofs.Common.{take, Ok, true}
use Rattle.q3_io.specs.Faults.{HasCause}
use Rattle.q3_io.specs.Written.{Wrote}
use Rattle.q3_io.specs.Print.{words_text}
use Rattle.q3_io.specs.declared.sink.Failed.{Failed}
use Rattle.q3_io.proofs.print.print_indexed.Given as goal

abbrev pub invariant-loop-index : goal.invariant-loop-index
invariant-loop-index g l =
    Wrote (g.O.Sink.written l.initial.out) (g.O.Sink.written l.out) (words_text l.letter 0 (take l.index l.words)) true
    × HasCause {T = Unit {0}} {E = Failed} (g.O.Sink.faults l.initial.out) (g.O.Sink.faults l.out) (Ok tt)
