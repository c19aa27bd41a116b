use Rattle.std.proofs.Common.{◌-◌, ◌≤◌, take}
use Rattle.q3_bits.specs.InPlace.{HasRead}
use Rattle.q3_fields.specs.Deltas.{fields_at}
use Rattle.q3_fields.proofs.FieldsRead.{left_at}
use Rattle.q3_fields.proofs.delta.read_fields.Given as goal

-- so many fields were read
abbrev pub invariant-loop-k : goal.invariant-loop-k
invariant-loop-k l = record {
  most : l.k ≤ l.count;
  reads : HasRead l.fn.r l.own l.k l.fn.words l.words (left_at l.state l.fn.r.words l.table.kinds l.count l.k l.fn.words l.own.left) (fields_at l.state l.fn.r.words (take l.count l.table.kinds) l.fn.words l.fn.r.left);
}

abbrev pub decreases-loop-k : goal.decreases-loop-k
decreases-loop-k l = l.count - l.k
