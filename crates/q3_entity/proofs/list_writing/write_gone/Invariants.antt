use Rattle.std.proofs.Common.{◌≡◌, length}
use Rattle.q3_bits.specs.Streams.{HasWritten}
use Rattle.q3_entity.specs.Entities.{run_of}
use Rattle.q3_entity.specs.Runs.{from_number}
use Rattle.q3_entity.specs.Merging.{removals}
use Rattle.q3_entity.proofs.list_writing.write_gone.Given as goal

-- what is left of the removals and of the base
abbrev pub invariant-loop-gone : goal.invariant-loop-gone
invariant-loop-gone l = record {
  written : HasWritten l.fn.w l.w (removals l.fn.w.words l.table l.number (run_of l.left)) (removals l.fn.w.words l.table l.number (run_of l.fn.base));
  left : from_number l.number (run_of l.left) ≡ from_number l.number (run_of l.fn.base);
}

abbrev pub decreases-loop-gone : goal.decreases-loop-gone
decreases-loop-gone l = length (run_of l.left)
