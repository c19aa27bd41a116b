use Rattle.q3_fields.proofs.KindsRead.{HasKinds}
use Rattle.q3_fields.proofs.table.Table.numbered.Given as goal

-- so many widths were read
abbrev pub invariant-loop-i : goal.invariant-loop-i
invariant-loop-i l = HasKinds l.widths l.i l.kinds
