use Rattle.q3_config.proofs.Makes.{piece_is_change}
use Rattle.q3_config.proofs.laws.pieces_are_changes.Goals as goal

pub returns : goal.returns
returns c = piece_is_change
