use Rattle.q3_map.proofs.Telling.{new_maps_tell}
use Rattle.q3_map.proofs.laws.new_maps_tell.Goals as goal

pub returns : goal.returns
returns c = new_maps_tell c.text_laws.ensures
