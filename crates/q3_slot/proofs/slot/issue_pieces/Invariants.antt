use Rattle.q3_slot.proofs.Told.{AreLeft}
use Rattle.q3_slot.proofs.slot.issue_pieces.Given as goal

-- the texts of the pieces that are left still fit, and go after those that were issued
abbrev pub invariant-loop-k : goal.invariant-loop-k
invariant-loop-k l = AreLeft l.fn.issued l.issued l.index l.text l.k
