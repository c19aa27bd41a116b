use Rattle.std.proofs.Common.{sym, subst, rules}
use Rattle.std.specs.Prelude.{set}
use Rattle.q3_profile.specs.declared.profile.Profile.{Profile}
use Rattle.q3_server.specs.Standing.{IsServer}
use Rattle.q3_server.proofs.KeepsClients.{server_emitted}
use Rattle.q3_server.proofs.server.Server.emit.Goals as goal

pub invariant_of-self : goal.invariant_of-self
invariant_of-self c =
    let stands = server_emitted c.self.inside.shared.profile c.self.inside.shared.map c.self.inside.slots.items c.self.inside.shared.frames c.args.slot c.index_mut.result.now c.emit.new.self (search rules) (search rules) c.self.invariant.3 c.below.ensures c.emit.new.shared.map c.emit.new.shared.frames c.emit.ensures.slot c.emit.ensures.map c.emit.ensures.frames in (
      search rules,
      search rules,
      search rules,
      subst (λ (profile : Profile). IsServer profile c.emit.new.shared.map (set c.self.inside.slots.items c.args.slot c.emit.new.self) c.emit.new.shared.frames) (sym c.emit.ensures.profile) stands,
    )
