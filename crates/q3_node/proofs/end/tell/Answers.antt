use Rattle.q3_node.proofs.Parts.{nothing_done}
use Rattle.q3_node.proofs.end.tell.Goals as goal

pub returns-in-Ok-clause-files : goal.returns-in-Ok-clause-files
returns-in-Ok-clause-files g c = λ told. nothing_done told

pub returns-in-Err-clause-files : goal.returns-in-Err-clause-files
returns-in-Err-clause-files g c = λ told. nothing_done told
