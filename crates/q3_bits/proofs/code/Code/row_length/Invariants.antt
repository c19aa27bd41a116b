use Rattle.std.proofs.Common.{◌≡◌, ◌+◌, ◌*◌, ◌≤◌, length, drop}
use Rattle.q3_bits.specs.Words.{row_bits}
use Rattle.q3_bits.proofs.code.Code.row_length.Given as goal

-- so many bits are counted, and the other fields are left
abbrev pub invariant-loop-value : goal.invariant-loop-value
invariant-loop-value l =
    (l.length + length (row_bits l.self (drop l.value-index l.fields)) ≡ length (row_bits l.self l.fields))
    × (l.length ≤ 103 * l.value-index)
