use Rattle.q3_player.proofs.Arrays.{all_shorts}
use Rattle.q3_player.proofs.laws.are_shorts.Goals as goal

pub returns : goal.returns
returns c =
    let array = c.well_formed.0 in
    record { count = array.1.0.1; each = all_shorts c.args.values array.0 array.1.1 }
