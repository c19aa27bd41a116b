use Rattle.std.proofs.Common.{arith}
use Rattle.q3_config.specs.Table.{texts_in}
use Rattle.q3_config.proofs.Sizes.{bytes-lt}
use Rattle.q3_config.proofs.table.Table.put.Goals as goal

pub make_room-requires-clause-few : goal.make_room-requires-clause-few
make_room-requires-clause-few c = let fewer = bytes-lt (texts_in c.self.inside.bytes.items c.self.inside.places.items) in omega (arith, c.requires.short, c.self.invariant.1, c.self.invariant.2)
