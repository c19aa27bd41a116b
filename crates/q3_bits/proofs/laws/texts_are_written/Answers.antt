use Rattle.q3_bits.proofs.Texts.{Writes-nothing, Writes-then, Writes-early, Writes-next, Writes-refused, HasWritten-begin, HasWritten-more, HasWritten-stops, HasWritten-all, HasWritten-words}
use Rattle.q3_bits.proofs.laws.texts_are_written.Goals as goal

pub returns : goal.returns
returns c = record {
  nothing = Writes-nothing;
  then = Writes-then;
  early = Writes-early;
  next = Writes-next;
  refused = Writes-refused;
  begin = HasWritten-begin;
  more = HasWritten-more;
  stops = HasWritten-stops;
  all = HasWritten-all;
  words = HasWritten-words;
}
