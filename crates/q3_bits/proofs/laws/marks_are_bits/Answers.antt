use Rattle.q3_bits.proofs.Gathered.{mark-here, mark-none}
use Rattle.q3_bits.proofs.laws.marks_are_bits.Goals as goal

pub returns : goal.returns
returns c = record {
  here = mark-here;
  none = mark-none;
}
