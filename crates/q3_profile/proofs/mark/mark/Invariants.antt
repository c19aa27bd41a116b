use Rattle.std.proofs.Common.{◌≡◌, take}
use Rattle.std.specs.List.{fold}
use Rattle.q3_profile.specs.Mark.{mark_after}
use Rattle.q3_profile.proofs.mark.mark.Given as goal

-- the mark of the bytes so far
abbrev pub invariant-loop-byte : goal.invariant-loop-byte
invariant-loop-byte l = l.mark ≡ fold mark_after 14695981039346656037 (take l.byte-index l.bytes)
