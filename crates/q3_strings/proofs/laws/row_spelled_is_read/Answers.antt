use Rattle.q3_strings.proofs.RowRead.{row_is_read}
use Rattle.q3_strings.proofs.laws.row_spelled_is_read.Goals as goal

pub returns : goal.returns
returns c = row_is_read c.put_is_read.ensures c.turns_are_taken.ensures c.command_spelled_is_read.ensures
