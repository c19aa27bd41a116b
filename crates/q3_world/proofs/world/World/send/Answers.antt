use Rattle.std.proofs.Common.{refl, sym}
use Rattle.q3_world.specs.Ends.{place_at}
use Rattle.q3_world.specs.Kept.{Kept, kept_send}
use Rattle.q3_world.proofs.Filing.{leaves_told, same_sent}
use Rattle.q3_world.proofs.Stepped.{few_sent, tells_does}
use Rattle.q3_world.proofs.world.World.send.Goals as goal

pub returns-clause-does : goal.returns-clause-does
returns-clause-does g c =
    let k : Kept = record { profile = c.self.inside.profile; ends = c.self.inside.ends; datagrams = c.self.inside.datagrams.items } in
    let room = sym c.room_for_one.ensures.same in
    rw (← c.self.view_is)
    (tells_does _ _ _ _ _ _ (kept_send k c.args.c (place_at k.ends c.args.c)) c.send.result (sym (c.send.ensures.kept k refl room)) (c.send.ensures.told k refl room) (few_sent k c.args.c (place_at k.ends c.args.c)))

pub returns-clause-leaves : goal.returns-clause-leaves
returns-clause-leaves g c =
    let k : Kept = record { profile = c.self.inside.profile; ends = c.self.inside.ends; datagrams = c.self.inside.datagrams.items } in
    let room = sym c.room_for_one.ensures.same in
    rw (← c.self.view_is)
    (leaves_told _ _ (kept_send k c.args.c (place_at k.ends c.args.c)).kept c.send.result (sym (c.send.ensures.kept k refl room)) refl (same_sent k c.args.c (place_at k.ends c.args.c) refl) (c.send.ensures.told k refl room).files)
