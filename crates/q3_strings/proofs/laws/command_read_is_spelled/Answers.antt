use Rattle.q3_strings.proofs.Spelled.{command_was_spelled}
use Rattle.q3_strings.proofs.laws.command_read_is_spelled.Goals as goal

pub returns : goal.returns
returns c = command_was_spelled c.read_was_put.ensures c.string_read_is_spelled.ensures
