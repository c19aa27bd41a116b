use Rattle.q3_testio.proofs.ToldPlaces.{found}
use Rattle.q3_testio.proofs.store.Store.find.Goals as goal

pub returns : goal.returns
returns c = rw (← c.self.view_is) (found c.self.inside.names.texts c.self.inside.contents.texts c.args.name.now c.first.result c.self.invariant.0 c.first.ensures)
