use Rattle.std.proofs.Common.{◌≡◌, ◌<◌, ℕ, length, get_or}
use Rattle.q3_bits.specs.Table.{IsEntry, no_entry}
use Rattle.q3_bits.proofs.code.index_of.Given as goal

-- the entries so far say which word begins their bits, or nothing
abbrev pub invariant-loop-k : goal.invariant-loop-k
invariant-loop-k l = record {
  count : length l.entries.items ≡ l.k;
  each : (k : ℕ) → k < l.k → IsEntry l.words k (get_or l.entries.items k no_entry);
}
