use Rattle.q3_strings.proofs.Spelled.{bytes_were_put}
use Rattle.q3_strings.proofs.laws.bytes_were_put.Goals as goal

pub returns : goal.returns
returns c = bytes_were_put c.read_was_put.ensures
