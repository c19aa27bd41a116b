use Rattle.q3_strings.proofs.RowRead.{ending_is_read}
use Rattle.q3_strings.proofs.laws.ending_spelled_is_read.Goals as goal

pub returns : goal.returns
returns c = ending_is_read c.put_is_read.ensures c.turns_are_taken.ensures
