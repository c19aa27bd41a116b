use Rattle.std.proofs.Common.{refl, sym}
use Rattle.q3_server.specs.Server.{emit_at}
use Rattle.q3_world.specs.Kept.{Kept, kept_serve}
use Rattle.q3_world.proofs.Filing.{leaves_told}
use Rattle.q3_world.proofs.Stepped.{few_served, tells_does}
use Rattle.q3_world.proofs.world.World.serve.Goals as goal

pub returns-clause-does : goal.returns-clause-does
returns-clause-does g c =
    let k : Kept = record { profile = c.self.inside.profile; ends = c.self.inside.ends; datagrams = c.self.inside.datagrams.items } in
    let room = sym c.room_for_one.ensures.same in
    rw (← c.self.view_is)
    (tells_does _ _ _ _ _ _ (kept_serve k c.args.c (emit_at k.ends.server c.args.c)) c.serve.result (sym (c.serve.ensures.kept k refl room)) (c.serve.ensures.told k refl room) (few_served k c.args.c))

pub returns-clause-leaves : goal.returns-clause-leaves
returns-clause-leaves g c =
    let k : Kept = record { profile = c.self.inside.profile; ends = c.self.inside.ends; datagrams = c.self.inside.datagrams.items } in
    let room = sym c.room_for_one.ensures.same in
    rw (← c.self.view_is)
    (leaves_told _ _ (kept_serve k c.args.c (emit_at k.ends.server c.args.c)).kept c.serve.result (sym (c.serve.ensures.kept k refl room)) refl (λ d. refl) (c.serve.ensures.told k refl room).files)
