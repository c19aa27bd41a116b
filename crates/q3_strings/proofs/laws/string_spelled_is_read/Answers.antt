use Rattle.q3_strings.proofs.Spelled.{string_is_read}
use Rattle.q3_strings.proofs.laws.string_spelled_is_read.Goals as goal

pub returns : goal.returns
returns c = string_is_read c.put_is_read.ensures
