use Rattle.std.proofs.Common.{[], ap, replicate, ◌∙◌}
use Rattle.q3_config.proofs.Kept.{no_strings-are, no_strings-is}
use Rattle.q3_config.proofs.configs.Configs.clear.Goals as goal

pub invariant_of-self : goal.invariant_of-self
invariant_of-self c = no_strings-are c.clear.new.self c.end.new.self (c.clear.ensures ∙ ap (λ n. replicate n []) c.self.invariant.count) c.end.ensures

pub returns : goal.returns
returns c = no_strings-is c.clear.new.self c.end.new.self (c.clear.ensures ∙ ap (λ n. replicate n []) c.self.invariant.count) c.end.ensures
