use Rattle.std.proofs.Common.{None, sym, ◌∙◌, arith}
use Rattle.q3_config.specs.Parts.{strings_with}
use Rattle.q3_config.proofs.Faults.{settable, none_refused}
use Rattle.q3_config.proofs.table.Table.set.Goals as goal

pub put-requires-clause-index : goal.put-requires-clause-index
put-requires-clause-index c =
    let may = settable (strings_with None c.args.self.now) c.args.index c.args.text.now (none_refused _ (sym c.in_ok-check.was ∙ c.check.ensures None)) in
    let lt = may.within in
    omega arith

pub put-requires-clause-fits : goal.put-requires-clause-fits
put-requires-clause-fits c =
    (settable (strings_with None c.args.self.now) c.args.index c.args.text.now (none_refused _ (sym c.in_ok-check.was ∙ c.check.ensures None))).fits.room

pub put-requires-clause-short : goal.put-requires-clause-short
put-requires-clause-short c =
    (settable (strings_with None c.args.self.now) c.args.index c.args.text.now (none_refused _ (sym c.in_ok-check.was ∙ c.check.ensures None))).fits.short
