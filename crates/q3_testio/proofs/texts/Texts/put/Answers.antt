use Rattle.std.proofs.Common.{[]}
use Rattle.std.proofs.lemmas.List.{get_or-set_same, set-set}
use Rattle.q3_testio.proofs.texts.Texts.put.Goals as goal

pub returns-clause-texts : goal.returns-clause-texts
returns-clause-texts c =
    let cleared = c.clear.ensures.texts in
    rw (c.add.ensures.texts, cleared, get_or-set_same c.args.self.now.texts c.args.place [] [] c.requires.within) (set-set c.args.self.now.texts c.args.place [] c.args.bytes.now)
