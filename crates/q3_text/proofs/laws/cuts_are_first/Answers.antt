use Rattle.q3_text.proofs.Cuts.{cuts-are-first}
use Rattle.q3_text.proofs.laws.cuts_are_first.Goals as goal

pub returns : goal.returns
returns c = cuts-are-first
