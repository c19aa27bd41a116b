use Rattle.std.proofs.Common.{rules}
use Rattle.q3_node.proofs.server.ServerEnd.serve.Goals as goal

pub returns-clause-does : goal.returns-clause-does
returns-clause-does g c = λ told. let files = c.hand_over.ensures.files told in search rules
