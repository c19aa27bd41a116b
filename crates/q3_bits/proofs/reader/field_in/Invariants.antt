use Rattle.q3_bits.proofs.Gathered.{HasSpelled}
use Rattle.q3_bits.proofs.reader.field_in.Given as goal

-- the raw bits and so many words were read
abbrev pub invariant-loop-k : goal.invariant-loop-k
invariant-loop-k l = HasSpelled l.code l.raw l.bytes l.bits l.k l.value l.left l.length
