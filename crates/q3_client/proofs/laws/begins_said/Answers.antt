use Rattle.q3_client.proofs.Begins.{next_is_said, begins}
use Rattle.q3_client.proofs.laws.begins_said.Goals as goal

pub returns : goal.returns
returns c = record { next = next_is_said c.numbered_are_commands.ensures; began = begins c.numbered_are_commands.ensures }
