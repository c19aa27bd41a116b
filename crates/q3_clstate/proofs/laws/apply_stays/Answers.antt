use Rattle.q3_clstate.proofs.Below.{Below}
use Rattle.q3_clstate.proofs.Stays.{new_stays, bytes_stay}
use Rattle.q3_clstate.proofs.laws.apply_stays.Goals as goal

pub returns : goal.returns
returns c =
    let below : Below = record {
      strings = c.strings_stay.ensures;
      texts = c.texts_stay.ensures;
      baselines = c.none_are_baselines.ensures;
      read = c.read_is_spelled.ensures;
      snapshots = c.snapshots_stay.ensures;
    } in
    record { none = new_stays below; apply = bytes_stay below }
