use Rattle.q3_fields.proofs.Normal.{player_field-norm, entity_field-norm}
use Rattle.q3_fields.proofs.laws.norm_has_its_text.Goals as goal

pub returns : goal.returns
returns c = λ words kind word allowed. (player_field-norm words kind word allowed, entity_field-norm words kind word allowed)
