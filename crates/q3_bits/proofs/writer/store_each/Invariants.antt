use Rattle.std.proofs.Common.{◌≡◌, ◌≤◌, ◌+◌, ◌/◌}
use Rattle.q3_bits.specs.Bits.{low_bits}
use Rattle.q3_bits.proofs.Written.{HasStored}
use Rattle.q3_bits.proofs.writer.store_each.Given as goal

-- the bytes up to this one are stored
abbrev pub invariant-loop-k : goal.invariant-loop-k
invariant-loop-k l = record {
  stored : HasStored l.fn.bytes l.bytes l.place (low_bits l.count l.bits) (l.place + l.count) l.k l.rest;
  end : l.end ≡ l.place + l.count;
  within : l.k ≤ (l.place + l.count) / 8;
}
