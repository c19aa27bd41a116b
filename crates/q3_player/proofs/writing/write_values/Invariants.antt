use Rattle.std.proofs.Common.{drop}
use Rattle.q3_bits.specs.Streams.{HasWritten}
use Rattle.q3_player.specs.Arrays.{changes_from}
use Rattle.q3_player.specs.Delta.{values_bits}
use Rattle.q3_player.proofs.writing.write_values.Given as goal

-- so many places were written
abbrev pub invariant-loop-k : goal.invariant-loop-k
invariant-loop-k l =
    HasWritten l.fn.w l.w (values_bits l.fn.w.words l.kind (changes_from l.k (drop l.k l.from) (drop l.k l.to))) (values_bits l.fn.w.words l.kind (changes_from 0 l.from l.to))
