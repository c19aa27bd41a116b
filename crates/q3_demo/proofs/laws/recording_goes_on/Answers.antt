use Rattle.q3_demo.proofs.Adding.{goes_on}
use Rattle.q3_demo.proofs.laws.recording_goes_on.Goals as goal

pub returns : goal.returns
returns c = goes_on
