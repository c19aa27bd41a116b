use Rattle.q3_io.proofs.Sinks.{nothing, follow, ends_early}
use Rattle.q3_io.proofs.laws.texts_follow.Goals as goal

pub returns : goal.returns
returns c = record { none = nothing; more = follow; early = ends_early }
