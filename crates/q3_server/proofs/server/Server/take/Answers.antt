use Rattle.std.proofs.Common.{rules}
use Rattle.q3_server.proofs.KeepsClients.{server_took}
use Rattle.q3_server.proofs.server.Server.take.Goals as goal

pub invariant_of-self : goal.invariant_of-self
invariant_of-self c = (
  search rules,
  search rules,
  search rules,
  server_took c.self.inside.shared.profile c.self.inside.shared.map c.self.inside.slots.items c.self.inside.shared.frames c.in-Some.slot c.index_mut.result.now c.take.new.self (search rules) (search rules) c.self.invariant.3 c.below.ensures c.args.from c.args.datagram.now c.take.ensures.slot,
)
