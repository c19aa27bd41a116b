use Rattle.std.proofs.Common.{subst}
use Rattle.q3_frames.specs.Frames.{AreFrames}
use Rattle.q3_frames.proofs.Building.{places_all}
use Rattle.q3_frames.proofs.frames.Frames.placed.Goals as goal

pub returns-clause-frames : goal.returns-clause-frames
returns-clause-frames c = subst AreFrames c.self.view_is (places_all c.self.inside.ring c.self.inside.placed c.self.inside.slots.items c.self.invariant.places)
