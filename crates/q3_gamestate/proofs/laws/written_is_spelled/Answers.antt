use Rattle.q3_gamestate.proofs.WrittenSpelled.{gamestate_is_spelled}
use Rattle.q3_gamestate.proofs.laws.written_is_spelled.Goals as goal

pub returns : goal.returns
returns c =
    gamestate_is_spelled (record {
      string = c.string_is_spelled.ensures;
      no_entity = c.zero_is_normal.ensures;
      entry = c.forced_is_spelled.ensures;
    })
