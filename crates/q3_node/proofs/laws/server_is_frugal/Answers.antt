use Rattle.q3_node.proofs.Serving.{server_is_frugal}
use Rattle.q3_node.proofs.laws.server_is_frugal.Goals as goal

pub returns : goal.returns
returns c = server_is_frugal
