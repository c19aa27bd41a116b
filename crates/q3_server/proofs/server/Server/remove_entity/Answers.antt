use Rattle.std.proofs.Common.{rules, sym, subst}
use Rattle.q3_server.specs.Standing.{IsServer}
use Rattle.q3_server.proofs.KeepsServer.{server_removed}
use Rattle.q3_server.proofs.server.Server.remove_entity.Goals as goal

pub invariant_of-self : goal.invariant_of-self
invariant_of-self c =
    let was = c.self.invariant in (
      search rules,
      search rules,
      search rules,
      subst (IsServer c.self.inside.shared.profile c.remove_entity.new.self c.self.inside.slots.items) (sym c.note_change.ensures)
          (server_removed c.self.inside.shared.profile c.self.inside.shared.map c.remove_entity.new.self c.self.inside.slots.items c.self.inside.shared.frames c.below.ensures c.args.number c.remove_entity.ensures was.3),
    )
