use Rattle.std.proofs.Common.{sym, subst}
use Rattle.q3_config.specs.Strings.{Strings, AreStrings}
use Rattle.q3_config.specs.Parts.{strings_with}
use Rattle.q3_config.proofs.Faults.{after_set-stays}
use Rattle.q3_config.proofs.configs.Configs.set.Goals as goal

pub invariant_of-self : goal.invariant_of-self
invariant_of-self c =
    subst (λ (s : Strings). AreStrings s) (sym (c.set.ensures.texts c.self.inside.pending)) (after_set-stays (strings_with c.self.inside.pending c.self.inside.table) c.args.index c.args.text.now c.self.invariant)
