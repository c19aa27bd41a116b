use Rattle.std.proofs.Common.{None, Option, sym, subst}
use Rattle.q3_config.specs.Strings.{Pending, AreStrings}
use Rattle.q3_config.specs.Parts.{strings_with}
use Rattle.q3_config.proofs.Kept.{attempted-last}
use Rattle.q3_config.proofs.configs.Configs.finish.Goals as goal

pub invariant_of-self : goal.invariant_of-self
invariant_of-self c =
    subst (λ (p : Option Pending). AreStrings (strings_with p c.change-changed.new.self)) (sym c.end.ensures)
    (attempted-last c.self.inside.pending c.self.inside.table c.change-changed.new.self c.change-changed.result _ _ c.self.invariant (c.change-changed.ensures None))
