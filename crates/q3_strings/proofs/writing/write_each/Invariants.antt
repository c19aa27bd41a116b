use Rattle.std.proofs.Common.{drop}
use Rattle.q3_bits.specs.Streams.{HasWritten}
use Rattle.q3_strings.specs.Texts.{bytes_row}
use Rattle.q3_strings.proofs.writing.write_each.Given as goal

-- so many bytes were written
abbrev pub invariant-loop-byte : goal.invariant-loop-byte
invariant-loop-byte l =
    HasWritten l.fn.w l.w (bytes_row l.fn.w.words (drop l.byte-index l.bytes)) (bytes_row l.fn.w.words l.bytes)
