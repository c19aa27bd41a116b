use Rattle.q3_fields.proofs.Changed.{changed_is_read}
use Rattle.q3_fields.proofs.WordsSpelled.{words_are_read}
use Rattle.q3_fields.proofs.laws.words_spelled_are_read.Goals as goal

pub returns : goal.returns
returns c = words_are_read c.put_is_read.ensures (changed_is_read c.player_spelled_is_read.ensures c.entity_spelled_is_read.ensures)
