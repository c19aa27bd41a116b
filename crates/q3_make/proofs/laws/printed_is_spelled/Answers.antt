use Rattle.q3_make.proofs.PrintedLines.{printed_is_spelled}
use Rattle.q3_make.proofs.laws.printed_is_spelled.Goals as goal

pub returns : goal.returns
returns c = λ events each few small. printed_is_spelled c.arrays_are_kept.ensures c.text_laws.ensures events each few small
