use Rattle.q3_config.proofs.TextBytes.{texts-stay}
use Rattle.q3_config.proofs.laws.texts_stay.Goals as goal

pub returns : goal.returns
returns c = texts-stay c.text_laws.ensures
