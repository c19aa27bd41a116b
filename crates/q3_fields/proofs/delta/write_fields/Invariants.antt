use Rattle.std.proofs.Common.{take, drop}
use Rattle.q3_bits.specs.Streams.{HasWritten}
use Rattle.q3_fields.specs.Deltas.{fields_bits}
use Rattle.q3_fields.proofs.delta.write_fields.Given as goal

-- so many fields were written
abbrev pub invariant-loop-k : goal.invariant-loop-k
invariant-loop-k l =
    HasWritten l.fn.w l.w (fields_bits l.state l.fn.w.words (drop l.k (take l.count l.table.kinds)) (drop l.k l.from) (drop l.k l.to)) (fields_bits l.state l.fn.w.words (take l.count l.table.kinds) l.from l.to)
