use Rattle.q3_io.proofs.Sinks.{each_follows, each_ends_early}
use Rattle.q3_io.proofs.laws.items_follow.Goals as goal

pub returns : goal.returns
returns g c = record { more = each_follows; early = each_ends_early }
