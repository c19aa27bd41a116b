use Rattle.q3_frames.proofs.Lasting.{build_is_added}
use Rattle.q3_frames.proofs.laws.build_is_added.Goals as goal

pub returns : goal.returns
returns c = build_is_added
