use Rattle.std.proofs.Common.{take, Ok, true}
use Rattle.std.specs.List.{flat_map}
use Rattle.q3_io.specs.Faults.{HasCause}
use Rattle.q3_io.specs.Written.{Wrote}
use Rattle.q3_io.specs.Print.{piece_text}
use Rattle.q3_io.specs.declared.sink.Failed.{Failed}
use Rattle.q3_io.proofs.print.print_all.Given as goal

abbrev pub invariant-loop-piece : goal.invariant-loop-piece
invariant-loop-piece g l =
    Wrote (g.O.Sink.written l.initial.out) (g.O.Sink.written l.out) (flat_map piece_text (take l.piece-index l.pieces)) true
    × HasCause {T = Unit {0}} {E = Failed} (g.O.Sink.faults l.initial.out) (g.O.Sink.faults l.out) (Ok tt)
