use Rattle.q3_rings.proofs.Added.{accept_adds}
use Rattle.q3_rings.proofs.laws.accept_is_added.Goals as goal

pub returns : goal.returns
returns c = accept_adds
