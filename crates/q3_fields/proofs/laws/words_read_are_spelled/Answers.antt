use Rattle.q3_fields.proofs.Changed.{changed_was_spelled}
use Rattle.q3_fields.proofs.WordsSpelled.{words_were_spelled}
use Rattle.q3_fields.proofs.laws.words_read_are_spelled.Goals as goal

pub returns : goal.returns
returns c = words_were_spelled c.read_was_put.ensures (changed_was_spelled c.player_read_is_spelled.ensures c.entity_read_is_spelled.ensures)
