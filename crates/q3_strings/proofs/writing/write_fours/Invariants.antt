use Rattle.std.proofs.Common.{◌*◌, take, drop}
use Rattle.q3_bits.specs.Streams.{HasWritten}
use Rattle.q3_strings.specs.Texts.{bytes_row}
use Rattle.q3_strings.proofs.writing.write_fours.Given as goal

-- so many times four bytes were written
abbrev pub invariant-loop-k : goal.invariant-loop-k
invariant-loop-k l =
    HasWritten l.fn.w l.w (bytes_row l.fn.w.words (drop (4 * l.k) (take (4 * l.count) l.bytes))) (bytes_row l.fn.w.words (take (4 * l.count) l.bytes))
