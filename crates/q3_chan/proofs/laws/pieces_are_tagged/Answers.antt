use Rattle.q3_chan.proofs.Whole.{pieces_are_tagged, first_are_partial}
use Rattle.q3_chan.proofs.laws.pieces_are_tagged.Goals as goal

pub returns-clause-whole : goal.returns-clause-whole
returns-clause-whole c = pieces_are_tagged

pub returns-clause-partial : goal.returns-clause-partial
returns-clause-partial c = first_are_partial
