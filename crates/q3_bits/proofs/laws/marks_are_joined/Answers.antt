use Rattle.q3_bits.proofs.Written.{marks-none, marks-joined}
use Rattle.q3_bits.proofs.laws.marks_are_joined.Goals as goal

pub returns : goal.returns
returns c = record { none = marks-none; join = marks-joined }
