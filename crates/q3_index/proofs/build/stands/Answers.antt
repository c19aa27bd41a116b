use Rattle.q3_index.proofs.build.stands.Goals as goal

pub returns : goal.returns
returns c = c.newest-newest.ensures.stands
