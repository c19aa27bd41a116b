use Rattle.q3_config.proofs.ReadTexts.{spelled-is-read}
use Rattle.q3_config.proofs.laws.spelled_is_read.Goals as goal

pub returns : goal.returns
returns c = spelled-is-read c.text_laws.ensures
