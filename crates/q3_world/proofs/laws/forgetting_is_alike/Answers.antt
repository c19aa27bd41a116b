use Rattle.q3_world.proofs.Forgetting.{alike_itself, step_alike, forgets_alike, makes_one}
use Rattle.q3_world.proofs.laws.forgetting_is_alike.Goals as goal

pub returns : goal.returns
returns c = record { itself = alike_itself; steps = step_alike; forgets = forgets_alike; makes = makes_one }
