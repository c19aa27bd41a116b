use Rattle.q3_strings.proofs.RowSpelled.{ending_was_spelled}
use Rattle.q3_strings.proofs.laws.ending_read_is_spelled.Goals as goal

pub returns : goal.returns
returns c = ending_was_spelled c.read_was_put.ensures
