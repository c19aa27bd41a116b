use Rattle.q3_entity.proofs.WrittenSpelled.{removal_is_read}
use Rattle.q3_entity.proofs.laws.removal_is_read.Goals as goal

pub returns : goal.returns
returns c = removal_is_read c.put_is_read.ensures
