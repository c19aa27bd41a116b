use Rattle.std.proofs.Common.{drop}
use Rattle.q3_bits.specs.Words.{row_bits}
use Rattle.q3_bits.specs.Streams.{HasWritten}
use Rattle.q3_bits.proofs.writer.Writer.put_all.Given as goal

-- so many fields were written
abbrev pub invariant-loop-value : goal.invariant-loop-value
invariant-loop-value l =
    HasWritten l.fn.self l.self (row_bits l.fn.self.words (drop l.value-index l.fields)) (row_bits l.fn.self.words l.fields)
