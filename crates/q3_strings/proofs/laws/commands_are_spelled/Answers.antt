use Rattle.q3_strings.proofs.Nops.{commands_are_spelled}
use Rattle.q3_strings.proofs.laws.commands_are_spelled.Goals as goal

pub returns : goal.returns
returns c = commands_are_spelled c.command_is_spelled.ensures
