use Rattle.q3_gamestate.proofs.SpelledRead.{gamestate_is_read}
use Rattle.q3_gamestate.proofs.laws.spelled_is_read.Goals as goal

pub returns : goal.returns
returns c =
    gamestate_is_read (record {
      put = c.put_is_read.ensures;
      turns = c.turns_are_taken.ensures;
      string = c.string_spelled_is_read.ensures;
      no_entity = c.zero_is_normal.ensures;
      entry = c.entry_spelled_is_read.ensures;
    })
