use Rattle.q3_server.proofs.KeepsMap.{map_none, map_timed, map_entered, map_removed, map_begun, map_new, map_baselined, map_configured}
use Rattle.q3_server.proofs.laws.map_stays.Goals as goal

pub returns : goal.returns
returns c =
    let below = c.below.ensures in
    record {
      none = map_none below;
      timed = map_timed;
      entered = map_entered below;
      removed = map_removed below;
      begun = map_begun;
      new_map = map_new below;
      baselined = map_baselined below;
      configured = map_configured below;
    }
