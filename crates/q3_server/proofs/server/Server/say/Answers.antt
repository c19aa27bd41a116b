use Rattle.std.proofs.Common.{rules}
use Rattle.q3_server.proofs.KeepsClients.{server_said}
use Rattle.q3_server.proofs.server.Server.say.Goals as goal

pub invariant_of-self : goal.invariant_of-self
invariant_of-self c =
    let was = c.self.invariant in (
      search rules,
      search rules,
      search rules,
      server_said c.self.inside.shared.profile c.self.inside.shared.map c.self.inside.slots.items c.self.inside.shared.frames c.args.slot c.index_mut.result.now c.say.new.self (search rules) (search rules) was.3 c.args.text.now c.say.ensures.slot,
    )
