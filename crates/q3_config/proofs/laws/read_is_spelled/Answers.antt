use Rattle.q3_config.proofs.ReadTexts.{read-is-spelled}
use Rattle.q3_config.proofs.laws.read_is_spelled.Goals as goal

pub returns : goal.returns
returns c = read-is-spelled c.text_laws.ensures
