use Rattle.q3_fields.proofs.Normal.{norm-below, norm-twice}
use Rattle.q3_fields.proofs.laws.norm_is_normal.Goals as goal

pub returns : goal.returns
returns c = λ kind word allowed below. (norm-below kind word allowed below, norm-twice kind word allowed)
