use Rattle.q3_config.proofs.Stays.{strings-stay}
use Rattle.q3_config.proofs.laws.strings_stay.Goals as goal

pub returns : goal.returns
returns c = strings-stay c.text_laws.ensures
