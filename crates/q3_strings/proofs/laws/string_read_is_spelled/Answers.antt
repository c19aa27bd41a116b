use Rattle.q3_strings.proofs.Spelled.{string_was_spelled}
use Rattle.q3_strings.proofs.laws.string_read_is_spelled.Goals as goal

pub returns : goal.returns
returns c = string_was_spelled c.read_was_put.ensures
