use Rattle.q3_messages.proofs.Survives.{said_survives}
use Rattle.q3_messages.proofs.laws.said_survives.Goals as goal

pub returns : goal.returns
returns c = said_survives c.said_is_read.ensures c.pieces_come_whole.ensures.whole c.pieces_come_whole.ensures.partial c.qport_is_told.ensures
