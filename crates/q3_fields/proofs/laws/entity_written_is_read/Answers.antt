use Rattle.q3_fields.specs.Kinds.{norm}
use Rattle.q3_fields.specs.Texts.{entity_field}
use Rattle.q3_fields.proofs.laws.entity_written_is_read.Goals as goal

pub returns : goal.returns
returns c =
    λ words kind word rest code allowed below.
    c.entity_spelled_is_read.ensures words kind (norm kind word) (entity_field words kind word) rest code allowed (c.entity_field_is_spelled.ensures words kind word allowed below)
