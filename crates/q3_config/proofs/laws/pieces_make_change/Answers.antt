use Rattle.q3_config.proofs.Makes.{pieces-make-change}
use Rattle.q3_config.proofs.laws.pieces_make_change.Goals as goal

pub returns : goal.returns
returns c = pieces-make-change c.text_laws.ensures
