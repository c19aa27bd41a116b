use Rattle.q3_chan.proofs.Whole.{pieces_come_whole, first_come_partial}
use Rattle.q3_chan.proofs.laws.pieces_come_whole.Goals as goal

pub returns-clause-whole : goal.returns-clause-whole
returns-clause-whole c = pieces_come_whole

pub returns-clause-partial : goal.returns-clause-partial
returns-clause-partial c = first_come_partial
