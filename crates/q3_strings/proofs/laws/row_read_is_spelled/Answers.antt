use Rattle.q3_strings.proofs.RowSpelled.{row_was_spelled}
use Rattle.q3_strings.proofs.laws.row_read_is_spelled.Goals as goal

pub returns : goal.returns
returns c = row_was_spelled c.read_was_put.ensures c.command_read_is_spelled.ensures c.nop_is_spelled.ensures
