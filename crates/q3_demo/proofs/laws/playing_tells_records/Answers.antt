use Rattle.q3_demo.proofs.Stepping.{tells_records}
use Rattle.q3_demo.proofs.laws.playing_tells_records.Goals as goal

pub returns : goal.returns
returns c = tells_records
