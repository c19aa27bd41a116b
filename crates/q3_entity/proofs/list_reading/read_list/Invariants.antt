use Rattle.std.proofs.Common.{◌≡◌, ◌+◌, ◌-◌, ◌^◌, ◌≤◌, length, take}
use Rattle.q3_bits.specs.Words.{IsCode}
use Rattle.q3_fields.specs.Kinds.{end_mark}
use Rattle.q3_entity.specs.Entities.{RiseFrom, run_of}
use Rattle.q3_entity.specs.Lists.{entity_list_at}
use Rattle.q3_entity.proofs.Turns.{from_reached}
use Rattle.q3_entity.proofs.list_reading.read_list.Given as goal

-- what is left is read as the whole list is
abbrev pub invariant-loop-cursor : goal.invariant-loop-cursor
invariant-loop-cursor l = record {
  words : l.r.words ≡ l.fn.r.words;
  place : l.r.place + length l.r.left ≡ l.fn.r.place + length l.fn.r.left;
  code : IsCode l.fn.r.words;
  most : l.cursor.next ≤ end_mark l.table;
  within : l.cursor.count ≤ length l.into.items;
  rise : RiseFrom (2 ^ 16) l.cursor.next (run_of l.cursor.base);
  reads : from_reached l.fn.r.words l.table l.baselines (record { next = l.cursor.next; base = run_of l.cursor.base; entities = take l.cursor.count l.into.items }, l.r.left)
      ≡ entity_list_at l.fn.r.words l.table l.baselines (run_of l.base) l.fn.r.left;
}

abbrev pub decreases-loop-cursor : goal.decreases-loop-cursor
decreases-loop-cursor l = end_mark l.table - l.cursor.next
