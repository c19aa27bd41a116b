use Rattle.q3_world.proofs.ByTags.{stands_opening}
use Rattle.q3_world.proofs.world.World.new.Goals as goal

pub returns-clause-stands : goal.returns-clause-stands
returns-clause-stands g =
    rw g.in_ok-world.ensures.made.0 (stands_opening g.layers.ensures g.args.profile.now (record { codec = g.in_ok-world.ensures.codec; rings = g.requires }))
