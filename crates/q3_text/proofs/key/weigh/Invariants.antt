use Rattle.std.proofs.Common.{◌≡◌, ◌≤◌, ◌+◌, ◌*◌, drop}
use Rattle.q3_text.specs.Keys.{weighted}
use Rattle.q3_text.proofs.key.weigh.Given as goal

-- so many bytes were weighed
abbrev pub invariant-loop-byte : goal.invariant-loop-byte
invariant-loop-byte l = record {
  weight : l.weight ≡ 119 + l.byte-index;
  sum : l.sum + weighted l.weight (drop l.byte-index l.bytes) ≡ weighted 119 l.bytes;
  small : l.sum ≤ 40000 * l.byte-index;
}
