use Rattle.q3_frames.proofs.Lasting.{build_keeps}
use Rattle.q3_frames.proofs.laws.build_keeps.Goals as goal

pub returns : goal.returns
returns c = build_keeps
