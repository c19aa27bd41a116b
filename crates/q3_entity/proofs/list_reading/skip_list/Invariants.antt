use Rattle.std.proofs.Common.{◌≡◌, ◌+◌, ◌-◌, ◌≤◌, length}
use Rattle.q3_fields.specs.Kinds.{end_mark}
use Rattle.q3_entity.specs.Lists.{list_skipped}
use Rattle.q3_entity.proofs.Skipping.{skipped_from}
use Rattle.q3_entity.proofs.list_reading.skip_list.Given as goal

-- what is left is passed over as the whole list is
abbrev pub invariant-loop-next : goal.invariant-loop-next
invariant-loop-next l = record {
  words : l.r.words ≡ l.fn.r.words;
  place : l.r.place + length l.r.left ≡ l.fn.r.place + length l.fn.r.left;
  most : l.next ≤ end_mark l.table;
  skips : skipped_from l.fn.r.words l.table (l.next, l.r.left) ≡ list_skipped l.fn.r.words l.table l.fn.r.left;
}

abbrev pub decreases-loop-next : goal.decreases-loop-next
decreases-loop-next l = end_mark l.table - l.next
