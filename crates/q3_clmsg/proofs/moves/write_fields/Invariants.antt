use Rattle.std.proofs.Common.{drop}
use Rattle.q3_bits.specs.Streams.{HasWritten}
use Rattle.q3_clmsg.specs.Moves.{move_widths, fields_bits}
use Rattle.q3_clmsg.proofs.moves.write_fields.Given as goal

-- so many fields were written
abbrev pub invariant-loop-k : goal.invariant-loop-k
invariant-loop-k l =
    HasWritten l.fn.w l.w (fields_bits l.fn.w.words l.key (drop l.k move_widths) (drop l.k l.from) (drop l.k l.to)) (fields_bits l.fn.w.words l.key move_widths l.from l.to)
