use Rattle.q3_strings.proofs.Numbered.{numbered_are_commands}
use Rattle.q3_strings.proofs.laws.numbered_are_commands.Goals as goal

pub returns : goal.returns
returns c = numbered_are_commands
