use Rattle.q3_messages.proofs.Survives.{built_survives}
use Rattle.q3_messages.proofs.laws.built_survives.Goals as goal

pub returns : goal.returns
returns c = built_survives c.built_is_read.ensures c.pieces_come_whole.ensures.whole c.pieces_come_whole.ensures.partial
