use Rattle.std.proofs.Common.{take, Ok, true}
use Rattle.std.specs.List.{flat_map}
use Rattle.q3_io.specs.Faults.{HasCause}
use Rattle.q3_io.specs.Written.{Wrote}
use Rattle.q3_io.specs.Print.{digits_text}
use Rattle.q3_io.specs.declared.sink.Failed.{Failed}
use Rattle.q3_io.proofs.print.print_hex.Given as goal

abbrev pub invariant-loop-byte : goal.invariant-loop-byte
invariant-loop-byte g l =
    Wrote (g.O.Sink.written l.initial.out) (g.O.Sink.written l.out) (flat_map digits_text (take l.byte-index l.bytes)) true
    × HasCause {T = Unit {0}} {E = Failed} (g.O.Sink.faults l.initial.out) (g.O.Sink.faults l.out) (Ok tt)
