use Rattle.q3_gamestate.proofs.ReadSpelled.{gamestate_was_spelled}
use Rattle.q3_gamestate.proofs.laws.read_is_spelled.Goals as goal

pub returns : goal.returns
returns c =
    gamestate_was_spelled (record {
      put = c.read_was_put.ensures;
      string = c.string_read_is_spelled.ensures;
      no_entity = c.zero_is_normal.ensures;
      no_baselines = c.none_are_baselines.ensures;
      baseline = c.baseline_is_added.ensures;
      entry = c.entry_read_is_spelled.ensures;
    })
