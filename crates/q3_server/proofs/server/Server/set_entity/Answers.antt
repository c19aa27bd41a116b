use Rattle.std.proofs.Common.{rules, ◌<◌, sym, subst}
use Rattle.q3_fields.specs.Kinds.{end_mark}
use Rattle.q3_server.specs.Server.{ServerState}
use Rattle.q3_server.specs.Standing.{IsServer}
use Rattle.q3_server.proofs.KeepsServer.{server_entered}
use Rattle.q3_server.proofs.server.Server.set_entity.Goals as goal

pub invariant_of-self : goal.invariant_of-self
invariant_of-self c =
    let was = c.self.invariant in
    let below : c.args.state.now.number < end_mark c.self.inside.shared.profile.entity =
    subst (λ (server : ServerState). c.args.state.now.number < end_mark server.profile.entity) (sym c.self.view_is) c.requires in (
      search rules,
      search rules,
      search rules,
      subst (IsServer c.self.inside.shared.profile c.set_entity.new.self c.self.inside.slots.items) (sym c.note_change.ensures)
          (server_entered c.self.inside.shared.profile c.self.inside.shared.map c.set_entity.new.self c.self.inside.slots.items c.self.inside.shared.frames c.below.ensures c.args.state.now below c.are_words.ensures c.set_entity.ensures was.3),
    )
