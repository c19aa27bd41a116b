use Rattle.std.proofs.Common.{length}
use Rattle.q3_bits.specs.Streams.{HasWritten}
use Rattle.q3_fields.specs.Kinds.{end_mark}
use Rattle.q3_entity.specs.Entities.{RiseFrom, run_of}
use Rattle.q3_entity.specs.Lists.{entity_list_bits}
use Rattle.q3_entity.proofs.list_writing.write_run.Given as goal

-- what is left is the text of the list of what is left
abbrev pub invariant-loop-entity : goal.invariant-loop-entity
invariant-loop-entity l = record {
  written : HasWritten l.fn.w l.w (entity_list_bits l.fn.w.words l.table l.baselines (run_of l.left) (run_of l.rest)) (entity_list_bits l.fn.w.words l.table l.baselines (run_of l.fn.base) (run_of l.now));
  base : RiseFrom (end_mark l.table) 0 (run_of l.left);
  now : RiseFrom (end_mark l.table) 0 (run_of l.rest);
}

abbrev pub decreases-loop-entity : goal.decreases-loop-entity
decreases-loop-entity l = length (run_of l.rest)
