use Rattle.q3_fields.proofs.Changed.{changed_is_spelled}
use Rattle.q3_fields.proofs.WordsSpelled.{delta_is_spelled}
use Rattle.q3_fields.proofs.laws.words_are_spelled.Goals as goal

pub returns : goal.returns
returns c = delta_is_spelled (changed_is_spelled c.player_field_is_spelled.ensures c.entity_field_is_spelled.ensures)
