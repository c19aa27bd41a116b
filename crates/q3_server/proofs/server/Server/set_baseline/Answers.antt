use Rattle.std.proofs.Common.{rules, ◌<◌, sym, subst}
use Rattle.q3_fields.specs.Kinds.{end_mark}
use Rattle.q3_server.specs.Server.{ServerState}
use Rattle.q3_server.proofs.KeepsServer.{server_baselined}
use Rattle.q3_server.proofs.server.Server.set_baseline.Goals as goal

pub invariant_of-self : goal.invariant_of-self
invariant_of-self c =
    let was = c.self.invariant in
    let below : c.args.state.now.number < end_mark c.self.inside.shared.profile.entity =
    subst (λ (server : ServerState). c.args.state.now.number < end_mark server.profile.entity) (sym c.self.view_is) c.requires.most in (
      search rules,
      search rules,
      search rules,
      server_baselined c.self.inside.shared.profile c.self.inside.shared.map c.set_baseline.new.self c.self.inside.slots.items c.self.inside.shared.frames c.below.ensures c.args.state.now c.set_baseline.result below c.are_words.ensures c.set_baseline.ensures was.3,
    )
