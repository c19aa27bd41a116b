use Rattle.q3_frames.proofs.Lasting.{build_leaves_others}
use Rattle.q3_frames.proofs.laws.build_leaves_others.Goals as goal

pub returns : goal.returns
returns c = build_leaves_others
