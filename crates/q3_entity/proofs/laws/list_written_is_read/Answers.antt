use Rattle.std.proofs.Common.{map}
use Rattle.q3_entity.specs.Entities.{normal_entity}
use Rattle.q3_entity.specs.Lists.{entity_list_bits}
use Rattle.q3_entity.proofs.laws.list_written_is_read.Goals as goal

pub returns : goal.returns
returns c =
    λ words table baselines base now rest code is_table are list states normal listed others.
    c.list_spelled_is_read.ensures words table baselines base (map (normal_entity table) now) (entity_list_bits words table baselines base now) rest code is_table are list states
    (c.list_is_spelled.ensures words table baselines base now code is_table are list states normal listed others)
