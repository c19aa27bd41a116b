use Rattle.q3_strings.proofs.Spelled.{bytes_are_read}
use Rattle.q3_strings.proofs.laws.bytes_are_read.Goals as goal

pub returns : goal.returns
returns c = bytes_are_read c.put_is_read.ensures
