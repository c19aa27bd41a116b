use Rattle.q3_frames.proofs.Lasting.{base_is_near}
use Rattle.q3_frames.proofs.laws.base_is_near.Goals as goal

pub returns : goal.returns
returns c = base_is_near
