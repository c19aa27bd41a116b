use Rattle.q3_bits.proofs.ReadOver.{HasRead-none, HasRead-here, HasRead-more, HasRead-keep, HasRead-ends, HasRead-all}
use Rattle.q3_bits.proofs.laws.lists_are_read.Goals as goal

pub returns : goal.returns
returns c = record {
  begin = HasRead-none;
  here = HasRead-here;
  more = HasRead-more;
  keep = HasRead-keep;
  stops = HasRead-ends;
  all = HasRead-all;
}
