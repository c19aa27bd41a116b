use Rattle.std.proofs.Common.{sym, ap, ◌∙◌, arith}
use Rattle.q3_config.specs.Strings.{refused}
use Rattle.q3_config.specs.Parts.{strings_with}
use Rattle.q3_config.proofs.Faults.{set_fault-within}
use Rattle.q3_config.proofs.table.Table.check.Goals as goal

pub returns : goal.returns
returns c = λ pending. c.check_room.ensures pending ∙ ap refused (sym (set_fault-within (strings_with pending c.args.self.now) c.args.index c.args.text.now (omega arith)))
