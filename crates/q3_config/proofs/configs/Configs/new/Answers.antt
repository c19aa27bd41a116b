use Rattle.q3_config.proofs.Kept.{no_strings-are, no_strings-is}
use Rattle.q3_config.proofs.configs.Configs.new.Goals as goal

pub invariant_of-result : goal.invariant_of-result
invariant_of-result c = no_strings-are c.in_ok-new.field-0 c.in_ok-new-2.field-0 c.in_ok-new.ensures c.in_ok-new-2.ensures

pub returns : goal.returns
returns c = no_strings-is c.in_ok-new.field-0 c.in_ok-new-2.field-0 c.in_ok-new.ensures c.in_ok-new-2.ensures
