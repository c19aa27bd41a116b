use Rattle.q3_config.proofs.Sizes.{config_size-empty, sized}
use Rattle.q3_config.proofs.laws.sizes_add_up.Goals as goal

pub returns : goal.returns
returns c = record { empty = config_size-empty; set = sized }
