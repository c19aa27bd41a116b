use Rattle.q3_config.proofs.InPieces.{pieces-are-texts}
use Rattle.q3_config.proofs.laws.pieces_are_texts.Goals as goal

pub returns : goal.returns
returns c = pieces-are-texts c.text_laws.ensures
