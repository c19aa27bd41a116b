use Rattle.q3_strings.proofs.Spelled.{command_is_read}
use Rattle.q3_strings.proofs.laws.command_spelled_is_read.Goals as goal

pub returns : goal.returns
returns c = command_is_read c.put_is_read.ensures c.string_spelled_is_read.ensures
