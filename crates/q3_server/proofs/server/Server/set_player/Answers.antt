use Rattle.std.proofs.Common.{rules}
use Rattle.q3_server.proofs.KeepsClients.{server_player}
use Rattle.q3_server.proofs.server.Server.set_player.Goals as goal

pub invariant_of-self : goal.invariant_of-self
invariant_of-self c =
    let was = c.self.invariant in (
      search rules,
      search rules,
      search rules,
      server_player c.self.inside.shared.profile c.self.inside.shared.map c.self.inside.slots.items c.self.inside.shared.frames c.args.slot c.index_mut.result.now c.set_player.new.self (search rules) (search rules) was.3 c.below.ensures c.args.player.now c.is_state.ensures c.set_player.ensures.slot,
    )
